-- What is told of a wrong array, from its items to the whole entry.
use Rattle.std.proofs.Common.{◌≡◌, ℕ, ◌≤◌, List, length, Option, Some, None, refl, ap, ◌∙◌, sym, subst}
use Rattle.std.specs.Prelude.{pos, codes}
use Rattle.std.specs.List.{All}
use Rattle.toml.specs.Data.{Data, Items, Members, array, string, integer, get}
use Rattle.toml.specs.View.{items_of}
use Rattle.card_core.specs.Deal.{IsDeal}
use Rattle.match_log.specs.Names.{AreNames}
use Rattle.dealer_kind.specs.Plans.{HasNodes}
use Rattle.dealer_kind.specs.Sources.{HasDeals}
use Rattle.dealer_kind.specs.declared.source.Source.{Source}
use Rattle.dealer_kind.specs.declared.source.Source.TheVariants.{Seed, Listed}
use Rattle.match_file.specs.declared.key.Key.{Key}
use Rattle.match_file.specs.declared.key.Key.TheVariants.{Names, Node, Outage as OutageKey}
use Rattle.match_file.specs.declared.outage.Outage.{Outage}
use Rattle.game_def.specs.Game.{Game as GameRecord}
use Rattle.match_file.specs.declared.match_fault.MatchFault.{MatchFault}
use Rattle.match_file.specs.declared.match_fault.MatchFault.TheVariants.{NotToml, BadEntry, Game, Unreadable, OutOfMemory}
use Rattle.match_file.specs.Said.{IsAbsent, EachSays, SaysEach, SaysName, SaysDeal, SaysDeals, SaysSource, SaysOutage, SaysBack}
use Rattle.match_file.specs.Matches.{entry_at, SaysTitle, SaysGame, SaysHands, SaysNames, SaysSources, DefinesGame, ListsOutages, SaysOutages}
use Rattle.match_file.specs.Outages.{LeaveMost}
use Rattle.match_file.specs.Refusals.{IsToldOf, IsWrong, IsRefused}
use Rattle.match_file.proofs.Each.{each-length, each-same, each-all}
use Rattle.match_file.proofs.Views.{items_of-same}

-- a wrong item makes the whole wrong
pub told_wider : (key : Key) (Part Whole : Type 0) (fault : MatchFault) → (Part → Whole) → IsToldOf key Part fault → IsToldOf key Whole fault
told_wider key Part Whole (BadEntry other) wider told = (told.0, wider told.1)
told_wider key Part Whole OutOfMemory wider told = tt
told_wider key Part Whole NotToml wider told = absurd told
told_wider key Part Whole (Game fault) wider told = absurd told
told_wider key Part Whole Unreadable wider told = absurd told

pub some_array : (a b : Items) → Some (array a) ≡ Some (array b) → a ≡ b
some_array a b e = cc

-- the items of an entry are those of its array
pub each_of : {T : Type 0} (Says : Data → T → Type 0) (entry : Option Data) (ds : List Data) (xs : List T) → entry ≡ Some (array (items_of ds)) → SaysEach Says entry xs → EachSays Says ds xs
each_of Says entry ds xs is says =
    let same : says.0 ≡ ds = items_of-same says.0 ds (some_array _ _ (sym says.1 ∙ is)) in
    subst (λ (es : List Data). EachSays Says es xs) same says.2

pub no_names : (players : ℕ) (table : Members) (ds : List Data) → entry_at Names table ≡ Some (array (items_of ds)) → IsAbsent (EachSays SaysName ds) → IsAbsent (SaysNames players table)
no_names players table ds is none = λ names says. none names (each_of SaysName (entry_at Names table) ds names is says.texts)

one_name : (d : Data) (a b : List ℕ) → SaysName d a → SaysName d b → a ≡ b
one_name d a b left right = let both : string a ≡ string b = sym left.text ∙ right.text in cc

-- where the names of an array aren't those of the seats, no other ones are
pub no_seats : (players : ℕ) (table : Members) (ds : List Data) (names : List (List ℕ)) → entry_at Names table ≡ Some (array (items_of ds)) → EachSays SaysName ds names
    → (¬ (AreNames players names)) → IsAbsent (SaysNames players table)
no_seats players table ds names is each not_seats =
    λ others says.
    let same : others ≡ names = each-same SaysName one_name ds others names (each_of SaysName (entry_at Names table) ds others is says.texts) each in
    not_seats (subst (AreNames players) same says.are_names)

pub no_deals : (players hands : ℕ) (d : Data) (ds : List Data) → d ≡ array (items_of ds) → IsAbsent (EachSays (SaysDeal players) ds) → IsAbsent (SaysDeals players hands (Some d))
no_deals players hands d ds is none = λ deals says. none deals (each_of (SaysDeal players) (Some d) ds deals (ap Some is) says.0)

-- too few texts are too few deals
pub few_deals : (players hands : ℕ) (d : Data) (ds : List Data) → d ≡ array (items_of ds) → (¬ (hands ≤ length ds)) → IsAbsent (SaysDeals players hands (Some d))
few_deals players hands d ds is few =
    λ deals says.
    let same = each-length (SaysDeal players) ds deals (each_of (SaysDeal players) (Some d) ds deals (ap Some is) says.0) in
    few (subst (λ (n : ℕ). hands ≤ n) (sym same) says.1)

pub no_array : {T : Type 0} (Says : Data → T → Type 0) (entry : Option Data) → IsAbsent (λ items. entry ≡ Some (array items)) → (xs : List T) → ¬ (SaysEach Says entry xs)
no_array Says entry none xs says = none (items_of says.0) says.1

pub no_sources : (players hands : ℕ) (table : Members) (ds : List Data) → entry_at Node table ≡ Some (array (items_of ds)) → IsAbsent (EachSays (SaysSource players hands) ds)
    → IsAbsent (SaysSources players hands table)
no_sources players hands table ds is none = λ sources says. none sources (each_of (SaysSource players hands) (entry_at Node table) ds sources is says.tables)

pub no_nodes : (players hands : ℕ) (table : Members) (ds : List Data) → entry_at Node table ≡ Some (array (items_of ds)) → (¬ (HasNodes (length ds))) → IsAbsent (SaysSources players hands table)
no_nodes players hands table ds is few =
    λ sources says.
    let same = each-length (SaysSource players hands) ds sources (each_of (SaysSource players hands) (entry_at Node table) ds sources is says.tables) in
    few (subst HasNodes (sym same) says.nodes)

one_has : (players hands : ℕ) (d : Data) (source : Source) → SaysSource players hands d source → HasDeals players hands source
one_has players hands d (Seed seed) says = tt
one_has players hands d (Listed deals) says = (says.1.1, each-all (SaysDeal players) (IsDeal players) (λ d deal one. one.dealt) says.1.0.0 deals.items says.1.0.2)

pub each_has_deals : (players hands : ℕ) (ds : List Data) (sources : List Source) → EachSays (SaysSource players hands) ds sources → All (HasDeals players hands) sources
each_has_deals players hands ds sources each = each-all (SaysSource players hands) (HasDeals players hands) (one_has players hands) ds sources each

-- a wrong node is told where all before it is right
pub refused_sources : (bytes : Option (List ℕ)) (table : Members) (name word : List ℕ) (game : GameRecord) (players hands : ℕ) (names : List (List ℕ)) (fault : MatchFault) → SaysTitle table name → SaysGame table word
    → DefinesGame bytes game → players ≡ game.players → SaysHands table hands → SaysNames players table names → IsToldOf Node (IsAbsent (SaysSources players hands table)) fault → IsRefused bytes table fault
refused_sources bytes table name word game players hands names (BadEntry other) title worded defines same many named told =
    let here : IsWrong bytes table Node = (
      ((name, title), (word, worded)),
      (
        game,
        defines,
        (
          (names, subst (λ (p : ℕ). SaysNames p table names) same named),
          (hands, many, subst (λ (p : ℕ). IsAbsent (SaysSources p hands table)) same told.1),
        ),
      ),
    ) in
    subst (λ (key : Key). IsWrong bytes table key) (sym told.0) here
refused_sources bytes table name word game players hands names OutOfMemory title worded defines same many named told = tt
refused_sources bytes table name word game players hands names NotToml title worded defines same many named told = absurd told
refused_sources bytes table name word game players hands names (Game fault) title worded defines same many named told = absurd told
refused_sources bytes table name word game players hands names Unreadable title worded defines same many named told = absurd told

-- ---- outages

pub no_outages : (nodes : ℕ) (d : Data) (ds : List Data) → d ≡ array (items_of ds) → IsAbsent (EachSays (SaysOutage nodes) ds) → IsAbsent (ListsOutages nodes (Some d))
no_outages nodes d ds is none = λ outages says. none outages (each_of (SaysOutage nodes) (Some d) ds outages (ap Some is) says)

same_number : (entry : Option Data) (a b : ℕ) → entry ≡ Some (integer (pos a)) → entry ≡ Some (integer (pos b)) → a ≡ b
same_number entry a b left right = let both : Some (integer (pos a)) ≡ Some (integer (pos b)) = sym left ∙ right in cc

same_back : (entry : Option Data) (at other : ℕ) (a b : Option ℕ) → SaysBack entry at a → SaysBack entry other b → a ≡ b
same_back entry at other None None left right = refl
same_back entry at other None (Some b) left right = let both = sym left ∙ right.0 in cc
same_back entry at other (Some a) None left right = let both = sym left.0 ∙ right in cc
same_back entry at other (Some a) (Some b) left right = ap Some (same_number entry a b left.0 right.0)

one_outage : (nodes : ℕ) (d : Data) (a b : Outage) → SaysOutage nodes d a → SaysOutage nodes d b → a ≡ b
one_outage nodes d a b left right =
    let nodes_same : a.node ≡ b.node = same_number (get (codes "node") d) a.node b.node left.node right.node in
    let starts_same : a.at ≡ b.at = same_number (get (codes "at") d) a.at b.at left.begins right.begins in
    let backs_same : a.back ≡ b.back = same_back (get (codes "back") d) a.at b.at a.back b.back left.ends right.ends in
    made a.node b.node a.at b.at a.back b.back nodes_same starts_same backs_same
  where
    make : ℕ → ℕ → Option ℕ → Outage
    make n t e = record { node = n; at = t; back = e }

    made : (n m t u : ℕ) (e f : Option ℕ) → n ≡ m → t ≡ u → e ≡ f → make n t e ≡ make m u f
    made n m t u e f p q r = cc

pub one_list : (nodes : ℕ) (entry : Option Data) (xs ys : List Outage) → ListsOutages nodes entry xs → ListsOutages nodes entry ys → xs ≡ ys
one_list nodes None xs ys left right = left ∙ sym right
one_list nodes (Some d) xs ys left right = each-same (SaysOutage nodes) (one_outage nodes) right.0 xs ys (each_of (SaysOutage nodes) (Some d) right.0 xs right.1 left) right.2

-- where the listed outages leave too few nodes, no other ones are said
pub too_many_out : (nodes : ℕ) (table : Members) (outages : List Outage) → ListsOutages nodes (entry_at OutageKey table) outages → (¬ (LeaveMost nodes outages)) → IsAbsent (SaysOutages nodes table)
too_many_out nodes table outages listed few =
    λ others says. few (subst (LeaveMost nodes) (one_list nodes (entry_at OutageKey table) others outages says.listed listed) says.most_stay)
