-- The text of a kept match: what its lines say can be read back, and how two kept matches differ.
use Rattle.std.proofs.Common.{◌≡◌, ℕ, ◌≤◌, List, [], ◌∷◌, ◌++◌, Bor, Option, Some, None, MatchOption, IfSome, decimal, refl, ap, ◌∙◌, subst, arith}
use Rattle.std.specs.Prelude.{◌↔◌, IsNone}
use Rattle.std.proofs.lemmas.Bool.{true≢false}
use Rattle.std.specs.List.{AllByRecursion}
use Rattle.game_def.specs.Game.{Game}
use Rattle.game_def.specs.Text.{HasNoFeed}
use Rattle.matchstate.specs.Free.{IsFreeOf}
use Rattle.match_log.specs.Log.{Title}
use Rattle.match_log.specs.Lines.{names_field}
use Rattle.match_log.proofs.Free.{name_free, decimal_text_free}
use Rattle.match_log.proofs.FieldBytes.{names_plain, no_end}
use Rattle.dealer_kind.specs.Kind.{Setting}
use Rattle.dealer_kind.specs.Plans.{IsSetting}
use Rattle.match_file.specs.Kept.{Kept, Keeps, IsFirst, line}
use Rattle.match_file.specs.KeptLines.{Said, IsOneEach}
use Rattle.match_file.specs.declared.difference.Difference.{Difference}
use Rattle.match_file.specs.declared.difference.Difference.TheVariants.{Name, Game as GameWord, Hands, Names, Nodes, Values, Unread, Node, Command}

-- what is found in front of a feed, behind a word
pub line_found : (text word behind : List ℕ) (found : Option (Bor (List ℕ) × Bor (List ℕ))) → text ≡ word ++ behind → IfSome found (λ parts. (behind ≡ parts.0.now ++ 10 ∷ parts.1.now) × IsFreeOf 10 parts.0.now) → IfSome found (λ parts. text ≡ line word parts.0.now parts.1.now)
line_found text word behind None whole is = is
line_found text word behind (Some parts) whole is = whole ∙ ap (λ (t : List ℕ). word ++ t) is.0

-- ---- what a kept match says on its lines

abbrev pub said_of : Kept → List ℕ → Said
said_of kept rest = record {
  name = kept.setting.title.name;
  game = kept.setting.title.game;
  hands = decimal kept.setting.title.hands;
  names = names_field kept.setting.names;
  nodes = decimal kept.nodes;
  rest = rest;
}

printable_one_line : (text : List ℕ) → AllByRecursion (λ byte. (33 ≤ byte) × (byte ≤ 126)) text → HasNoFeed text
printable_one_line [] all = tt
printable_one_line (byte ∷ text) all = let least : 33 ≤ byte = all.0.0 in (λ same. omega arith, printable_one_line text all.1)

pub one_each : (kept : Kept) (rest : List ℕ) → IsSetting kept.setting → IsOneEach (said_of kept rest)
one_each kept rest within = record {
  name = name_free 10 refl kept.setting.title.name within.match_name;
  game = printable_one_line kept.setting.title.game within.game_word.printable;
  hands = decimal_text_free 10 refl kept.setting.title.hands;
  names = no_end (names_field kept.setting.names) (names_plain kept.setting.names within.seat_names.each_name);
  nodes = decimal_text_free 10 refl kept.nodes;
}

-- ---- two kept matches

abbrev title : List ℕ → List ℕ → ℕ → Title
title name game hands = record { name = name; game = game; hands = hands }

pub title_same : (a b : Title) → a.name ≡ b.name → a.game ≡ b.game → a.hands ≡ b.hands → a ≡ b
title_same a b name game hands =
    ap (λ (n : List ℕ). title n a.game a.hands) name ∙ (ap (λ (g : List ℕ). title b.name g a.hands) game ∙ ap (λ (h : ℕ). title b.name b.game h) hands)

abbrev setting : Game → Title → List (List ℕ) → Setting
setting game title names = record { game = game; title = title; names = names }

pub setting_same : (a b : Setting) → a.game ≡ b.game → a.title ≡ b.title → a.names ≡ b.names → a ≡ b
setting_same a b game said names =
    ap (λ (g : Game). setting g a.title a.names) game ∙ (ap (λ (t : Title). setting b.game t a.names) said ∙ ap (λ (n : List (List ℕ)). setting b.game b.title n) names)

abbrev kept : Setting → ℕ → Kept
kept said nodes = record { setting = said; nodes = nodes }

pub kept_same : (a b : Kept) → a.setting ≡ b.setting → a.nodes ≡ b.nodes → a ≡ b
kept_same a b said nodes = ap (λ (s : Setting). kept s a.nodes) said ∙ ap (λ (n : ℕ). kept b.setting n) nodes

-- nothing is first where they are the same
pub none_first : (a b : Kept) (difference : Difference) → a ≡ b → IsFirst a b difference → ⊥
none_first a b Name same first = first (ap (λ (k : Kept). k.setting.title.name) same)
none_first a b GameWord same first = first.1 (ap (λ (k : Kept). k.setting.title.game) same)
none_first a b (Hands counts) same first = first.2.0 (ap (λ (k : Kept). k.setting.title.hands) same)
none_first a b Names same first = first.1 (ap (λ (k : Kept). k.setting.names) same)
none_first a b (Nodes counts) same first = first.2.0 (ap (λ (k : Kept). k.nodes) same)
none_first a b Values same first = first.3 (ap (λ (k : Kept). k.setting.game) same)
none_first a b Unread same first = first
none_first a b Node same first = first
none_first a b Command same first = first

-- a text that keeps the one keeps the other just where nothing is first
pub keeps_it : (found : Option Difference) (text : List ℕ) (old new : Kept) → Keeps text old → (Keeps text new → old ≡ new) → MatchOption found (old ≡ new) (IsFirst old new) → IsNone found ↔ Keeps text new
keeps_it None text old new keeps only same = (λ none. subst (Keeps text) same keeps, λ other. refl)
keeps_it (Some difference) text old new keeps only first =
    (λ none. absurd (true≢false none), λ other. absurd (none_first old new difference (only other) first))
