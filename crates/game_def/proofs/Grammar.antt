-- What is read is a game file, and a game file is read as its game.
use Rattle.std.proofs.Common.{◌≡◌, ℕ, ◌+◌, true, false, List, [], ◌∷◌, ◌++◌, length, map, Result, Ok, Err, refl, sym, ap, subst, ◌∙◌, append_assoc, arith, ◌⊎◌, inl, inr}
use Rattle.std.specs.Prelude.{codes, IfOk}
use Rattle.std.specs.Str.{str_eq_ignore_ascii_case}
use Rattle.std.specs.List.{AllByRecursion, AllZip, IsDistinct}
use Rattle.std.proofs.lemmas.Bool.{cases_Bool, or_from}
use Rattle.std.proofs.lemmas.List.{append-nil}
use Rattle.game_def.specs.Game.{Game}
use Rattle.game_def.specs.Text.{lines, words}
use Rattle.game_def.specs.Key.{same_key}
use Rattle.game_def.specs.Entries.{is_set, AreEntries}
use Rattle.game_def.specs.GameFile.{Names, Sets, AreSettings, Defines, IsGameFile}
use Rattle.game_def.specs.Reading.{◌>>=◌, is_blank, is_gamedef, is_end, with_line, told_at, gamedef_from, entries_from}
use Rattle.game_def.specs.WholeFile.{all_passed, game_of, game_from, read_game}
use Rattle.game_def.proofs.Once.{no_entries, more_entries}
use Rattle.game_def.proofs.Following.{gamedef_found, gamedef_missing, gamedef_later, gamedef_none, entries_ended, entries_more, entries_none}
use Rattle.game_def.proofs.Passing.{bind_ok, passing_defines, defined_is, defining_passes}
use Rattle.game_def.proofs.Settings.{named_no_end, line_sets, line_again}
use Rattle.game_def.specs.declared.key.Key.{Key}
use Rattle.game_def.specs.declared.entry.Entry.{Entry}
use Rattle.game_def.specs.declared.fault_kind.FaultKind.{FaultKind}
use Rattle.game_def.specs.declared.fault.GameFault.{GameFault}

ok_is : {A : Type 0} (x y : A) → (let r : Result A GameFault = Ok x in r) ≡ Ok y → x ≡ y
ok_is x y e = cc

-- ---- the lines GAMEDEF and END GAMEDEF

blank_is : (texts : List (List ℕ)) → is_blank texts ≡ true → texts ≡ []
blank_is [] h = refl
blank_is (word ∷ texts) h = absurd cc

gamedef_names : (texts : List (List ℕ)) → is_gamedef texts ≡ true → AllZip Names (codes "gamedef" ∷ []) texts
gamedef_names [] h = absurd cc
gamedef_names (word ∷ texts) h =
    elim (cases_Bool (str_eq_ignore_ascii_case word (codes "gamedef"))) [
      | inl is ↦ let rest = blank_is texts (rw is at h) in rw rest (is, tt)
      | inr is ↦ absurd (let other = rw is at h in cc)
    ]

names_gamedef : (texts : List (List ℕ)) → AllZip Names (codes "gamedef" ∷ []) texts → is_gamedef texts ≡ true
names_gamedef [] h = absurd h
names_gamedef (word ∷ []) h = rw h.0 refl
names_gamedef (word ∷ next ∷ texts) h = absurd h.1

end_names : (texts : List (List ℕ)) → is_end texts ≡ true → AllZip Names (codes "end" ∷ codes "gamedef" ∷ []) texts
end_names [] h = absurd cc
end_names (word ∷ texts) h =
    elim (cases_Bool (str_eq_ignore_ascii_case word (codes "end"))) [
      | inl is ↦ (is, gamedef_names texts (rw is at h))
      | inr is ↦ absurd (let other = rw is at h in cc)
    ]

names_end : (texts : List (List ℕ)) → AllZip Names (codes "end" ∷ codes "gamedef" ∷ []) texts → is_end texts ≡ true
names_end [] h = absurd h
names_end (word ∷ texts) h = rw h.0 (names_gamedef texts h.1)

setting_no_end : (texts : List (List ℕ)) (entry : Entry) → Sets texts entry → is_end texts ≡ false
setting_no_end texts entry sets =
    let other = named_no_end entry.key sets.name sets.named in
    elim sets.form [
      | inl plain ↦ rw (plain, other) refl
      | inr sign ↦ rw (sign, other) refl
    ]

-- ---- up to GAMEDEF

record Headed (read : ℕ) (all : List (List ℕ)) (before : ℕ) (more : List (List ℕ)) : Type 0 where
  front : List (List ℕ)
  head : List ℕ
  form : all ≡ front ++ head ∷ more
  blank : AllByRecursion (λ line. words line ≡ []) front
  gamedef : AllZip Names (codes "gamedef" ∷ []) (words head)
  place : before ≡ read + length front + 1

headed : (read : ℕ) (all : List (List ℕ)) (before : ℕ) (more : List (List ℕ)) → gamedef_from read all ≡ Ok (before, more) → Headed read all before more
headed read [] before more e = absurd (let other = sym (gamedef_none read) ∙ e in cc)
headed read (line ∷ rest) before more e =
    elim (cases_Bool (is_gamedef (words line))) [
      | inl is ↦
          let same : (let p : ℕ × List (List ℕ) = (read + 1, rest) in p) ≡ (before, more) = ok_is (read + 1, rest) (before, more) (sym (gamedef_found read line rest is) ∙ e) in
          record {
            front = [];
            head = line;
            form = ap (λ (p : ℕ × List (List ℕ)). line ∷ p.1) same;
            blank = tt;
            gamedef = gamedef_names (words line) is;
            place = let first : read + 1 ≡ before = ap (λ (p : ℕ × List (List ℕ)). p.0) same in omega arith;
          }
      | inr is ↦
          elim (cases_Bool (is_blank (words line))) [
            | inl none ↦
                let later = headed (read + 1) rest before more (sym (gamedef_later read line rest none) ∙ e) in
                record {
                  front = line ∷ later.front;
                  head = later.head;
                  form = ap (λ (ls : List (List ℕ)). line ∷ ls) later.form;
                  blank = (blank_is (words line) none, later.blank);
                  gamedef = later.gamedef;
                  place = let p = later.place in omega arith;
                }
            | inr some ↦ absurd (let other = sym (gamedef_missing read line rest is some) ∙ e in cc)
          ]
    ]

head_again : (read : ℕ) (front : List (List ℕ)) (head : List ℕ) (more : List (List ℕ)) → AllByRecursion (λ line. words line ≡ []) front → AllZip Names (codes "gamedef" ∷ []) (words head)
    → gamedef_from read (front ++ head ∷ more) ≡ Ok (read + length front + 1, more)
head_again read [] head more blank gamedef = gamedef_found read head more (names_gamedef (words head) gamedef) ∙ ap (λ (n : ℕ). Ok (n, more)) (omega arith)
head_again read (line ∷ front) head more blank gamedef =
    gamedef_later read line (front ++ head ∷ more) (rw blank.0 refl) ∙ head_again (read + 1) front head more blank.1 gamedef ∙ ap (λ (n : ℕ). Ok (n, more)) (omega arith)

-- ---- up to END GAMEDEF

record Settled (before : ℕ) (entries : List Entry) (all : List (List ℕ)) (found : List Entry) : Type 0 where
  body : List (List ℕ)
  foot : List ℕ
  rest : List (List ℕ)
  more : List Entry
  form : all ≡ body ++ foot ∷ rest
  settings : AreSettings before body more
  found_are : found ≡ entries ++ more
  are : AreEntries found
  end_gamedef : AllZip Names (codes "end" ∷ codes "gamedef" ∷ []) (words foot)

told_ok : {A : Type 0} (line : ℕ) (r : Result A FaultKind) (x : A) → told_at line r ≡ Ok x → r ≡ Ok x
told_ok {A} line (Ok y) x e = let same : y ≡ x = ok_is y x e in ap (λ (z : A). let r : Result A FaultKind = Ok z in r) same
told_ok line (Err kind) x e = absurd cc

line_read : (before : ℕ) (entries : List Entry) (line : List ℕ) (rest : List (List ℕ)) (p : List Entry × ℕ) → is_end (words line) ≡ false → entries_from before entries (line ∷ rest) ≡ Ok p
    → (one : List Entry) × (with_line entries (before + 1) (words line) ≡ Ok one) × (entries_from (before + 1) one rest ≡ Ok p)
unfolding entries_from
line_read before entries line rest p h e =
    let read = rw h at e in
    let a = bind_ok (told_at (before + 1) (with_line entries (before + 1) (words line))) (λ found. entries_from (before + 1) found rest) p read in
    (a.0, told_ok (before + 1) (with_line entries (before + 1) (words line)) a.0 a.1, a.2)

blank_line : (entries : List Entry) (line : ℕ) → with_line entries line [] ≡ Ok entries
unfolding with_line
blank_line entries line = refl

-- what a line that was read adds
Adds : List Entry → ℕ → List (List ℕ) → List Entry → Type 0
Adds entries line texts one =
    ((texts ≡ []) × (entries ≡ one))
    ⊎ ((entry : Entry) × (one ≡ entries ++ entry ∷ []) × AreEntries one × Sets texts entry × (entry.line ≡ line))

adds_none : (entries one : List Entry) → (let r : Result (List Entry) FaultKind = Ok entries in r) ≡ Ok one → entries ≡ one
adds_none entries one e = cc

line_adds : (entries : List Entry) (line : ℕ) (texts : List (List ℕ)) (one : List Entry) → AreEntries entries → with_line entries line texts ≡ Ok one → Adds entries line texts one
unfolding Adds
line_adds entries line [] one are e = inl (refl, adds_none entries one (sym (blank_line entries line) ∙ e))
line_adds entries line (name ∷ texts) one are e =
    let a = line_sets entries line name texts one e in
    inr (a.0, a.1, subst AreEntries (sym a.1) (more_entries entries a.0 are a.2 a.3.fitting), a.3, a.4)

settled : (before : ℕ) (entries : List Entry) (all : List (List ℕ)) (found : List Entry) (place : ℕ) → AreEntries entries → entries_from before entries all ≡ Ok (found, place) → Settled before entries all found
unfolding Adds
settled before entries [] found place are e = absurd (let other = sym (entries_none before entries) ∙ e in cc)
settled before entries (line ∷ rest) found place are e =
    elim (cases_Bool (is_end (words line))) [
      | inl is ↦
          let same = ok_is (entries, before + 1) (found, place) (sym (entries_ended before entries line rest is) ∙ e) in
          let found_is : entries ≡ found = ap (λ (p : List Entry × ℕ). p.0) same in
          record {
            body = [];
            foot = line;
            rest = rest;
            more = [];
            form = refl;
            settings = refl;
            found_are = sym found_is ∙ sym (append-nil entries);
            are = subst AreEntries found_is are;
            end_gamedef = end_names (words line) is;
          }
      | inr is ↦
          let a = line_read before entries line rest (found, place) is e in
          elim (line_adds entries (before + 1) (words line) a.0 are a.1) [
            | inl blank ↦
                let later = settled (before + 1) a.0 rest found place (subst AreEntries blank.1 are) a.2 in
                record {
                  body = line ∷ later.body;
                  foot = later.foot;
                  rest = later.rest;
                  more = later.more;
                  form = ap (λ (ls : List (List ℕ)). line ∷ ls) later.form;
                  settings = inl (blank.0, later.settings);
                  found_are = later.found_are ∙ ap (λ (es : List Entry). es ++ later.more) (sym blank.1);
                  are = later.are;
                  end_gamedef = later.end_gamedef;
                }
            | inr set ↦
                let later = settled (before + 1) a.0 rest found place set.2 a.2 in
                record {
                  body = line ∷ later.body;
                  foot = later.foot;
                  rest = later.rest;
                  more = set.0 ∷ later.more;
                  form = ap (λ (ls : List (List ℕ)). line ∷ ls) later.form;
                  settings = inr (set.0, later.more, refl, set.3, set.4, later.settings);
                  found_are = later.found_are ∙ ap (λ (es : List Entry). es ++ later.more) set.1 ∙ append_assoc entries (set.0 ∷ []) later.more;
                  are = later.are;
                  end_gamedef = later.end_gamedef;
                }
          ]
    ]

apart_from : (key : Key) (entries : List Entry) (entry : Entry) (others : List Entry) → AllByRecursion (λ other. same_key key other ≡ false) (map (λ e. e.key) (entries ++ entry ∷ others)) → same_key key entry.key ≡ false
apart_from key [] entry others all = all.0
apart_from key (first ∷ entries) entry others all = apart_from key entries entry others all.1

-- an entry of a key is not set before it
apart : (entries : List Entry) (entry : Entry) (others : List Entry) → IsDistinct same_key (map (λ e. e.key) (entries ++ entry ∷ others)) → is_set entries entry.key ≡ false
unfolding IsDistinct
apart [] entry others once = refl
apart (first ∷ entries) entry others once = or_from _ _ (apart_from first.key entries entry others once.0) (apart entries entry others once.1)

settings_again : (before : ℕ) (entries : List Entry) (body : List (List ℕ)) (foot : List ℕ) (rest : List (List ℕ)) (more : List Entry) → AreSettings before body more → IsDistinct same_key (map (λ e. e.key) (entries ++ more))
    → AllZip Names (codes "end" ∷ codes "gamedef" ∷ []) (words foot) → entries_from before entries (body ++ foot ∷ rest) ≡ Ok (entries ++ more, before + length body + 1)
settings_again before entries [] foot rest more settings once end_gamedef =
    let same : entries ≡ entries ++ more = sym (ap (λ (es : List Entry). entries ++ es) settings ∙ append-nil entries) in
    entries_ended before entries foot rest (names_end (words foot) end_gamedef) ∙ ap (λ (es : List Entry). Ok (es, before + 1)) same ∙ ap (λ (n : ℕ). Ok (entries ++ more, n)) (omega arith)
settings_again before entries (line ∷ body) foot rest more settings once end_gamedef =
    let place : before + 1 + length body + 1 ≡ before + length (line ∷ body) + 1 = omega arith in
    elim settings [
      | inl blank ↦
          entries_more before entries line (body ++ foot ∷ rest) entries (rw blank.0 refl) (rw blank.0 (blank_line entries (before + 1)))
          ∙ settings_again (before + 1) entries body foot rest more blank.1 once end_gamedef ∙ ap (λ (n : ℕ). Ok (entries ++ more, n)) place
      | inr set ↦
          let here : IsDistinct same_key (map (λ e. e.key) (entries ++ set.0 ∷ set.1)) = subst (λ (es : List Entry). IsDistinct same_key (map (λ e. e.key) (entries ++ es))) set.2 once in
          let joined : (entries ++ set.0 ∷ []) ++ set.1 ≡ entries ++ set.0 ∷ set.1 = append_assoc entries (set.0 ∷ []) set.1 in
          let later : IsDistinct same_key (map (λ e. e.key) ((entries ++ set.0 ∷ []) ++ set.1)) = subst (λ (es : List Entry). IsDistinct same_key (map (λ e. e.key) es)) (sym joined) here in
          let read : with_line entries (before + 1) (words line) ≡ Ok (entries ++ set.0 ∷ []) =
          ap (λ (n : ℕ). with_line entries n (words line)) (sym set.4) ∙ line_again entries (words line) set.0 set.3 (apart entries set.0 set.1 here) in
          entries_more before entries line (body ++ foot ∷ rest) (entries ++ set.0 ∷ []) (setting_no_end (words line) set.0 set.3) read
          ∙ settings_again (before + 1) (entries ++ set.0 ∷ []) body foot rest set.1 set.5 later end_gamedef
          ∙ ap (λ (n : ℕ). Ok ((entries ++ set.0 ∷ []) ++ set.1, n)) place
          ∙ ap (λ (es : List Entry). Ok (es, before + length (line ∷ body) + 1)) (joined ∙ ap (λ (es : List Entry). entries ++ es) (sym set.2))
    ]

-- ---- the whole file

game_ok : (x y : Game) → (let r : Result Game GameFault = Ok x in r) ≡ Ok y → x ≡ y
game_ok x y e = cc

pub read_is_file : (text : List ℕ) (game : Game) → read_game text ≡ Ok game → IsGameFile text game
unfolding read_game game_from
read_is_file text game e =
    let a = bind_ok (gamedef_from 0 (lines text)) (λ start. entries_from start.0 [] start.1 >>= λ body. game_from body.0 body.1) game e in
    let b = bind_ok (entries_from a.0.0 [] a.0.1) (λ body. game_from body.0 body.1) game a.2 in
    let c = bind_ok (all_passed b.0.0 b.0.1) (λ passes. Ok (game_of b.0.0)) game b.2 in
    let head = headed 0 (lines text) a.0.0 a.0.1 a.1 in
    let body = settled a.0.0 [] a.0.1 b.0.0 b.0.1 no_entries b.1 in
    let defines : Defines b.0.0 game = subst (λ (g : Game). Defines b.0.0 g) (game_ok (game_of b.0.0) game c.2) (passing_defines b.0.0 b.0.1 body.are c.1) in
    let place : a.0.0 ≡ length head.front + 1 = let p = head.place in omega arith in
    record {
      front = head.front;
      head = head.head;
      body = body.body;
      foot = body.foot;
      rest = body.rest;
      entries = b.0.0;
      form = head.form ∙ ap (λ (ls : List (List ℕ)). head.front ++ head.head ∷ ls) body.form;
      blank = head.blank;
      gamedef = head.gamedef;
      settings = subst (λ (n : ℕ). AreSettings n body.body b.0.0) place (subst (λ (es : List Entry). AreSettings a.0.0 body.body es) (sym body.found_are) body.settings);
      end_gamedef = body.end_gamedef;
      defines = defines;
    }

pub file_is_read : (text : List ℕ) (game : Game) → IsGameFile text game → read_game text ≡ Ok game
unfolding read_game game_from
file_is_read text game file =
    let behind = file.body ++ file.foot ∷ file.rest in
    let start : gamedef_from 0 (lines text) ≡ Ok (length file.front + 1, behind) =
    ap (gamedef_from 0) file.form ∙ head_again 0 file.front file.head behind file.blank file.gamedef ∙ ap (λ (n : ℕ). Ok (n, behind)) (omega arith) in
    let found : entries_from (length file.front + 1) [] behind ≡ Ok (file.entries, length file.front + 1 + length file.body + 1) =
    settings_again (length file.front + 1) [] file.body file.foot file.rest file.entries file.settings file.defines.once file.end_gamedef in
    let is : game ≡ game_of file.entries = defined_is file.entries game file.defines in
    let passes = defining_passes file.entries (length file.front + 1 + length file.body + 1) (subst (λ (g : Game). Defines file.entries g) is file.defines) in
    rw (start, found, passes) (ap (λ (g : Game). Ok g) (sym is))

pub is_found : (text : List ℕ) (result : Result Game GameFault) → result ≡ read_game text → IfOk result (λ game. IsGameFile text game)
is_found text (Ok game) e = read_is_file text game (sym e)
is_found text (Err fault) e = tt
