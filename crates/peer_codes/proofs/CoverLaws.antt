-- A coded record that is written in one place: what stands in front, the body, which is hidden where it stands, and the tag.
use Rattle.std.proofs.Common.{◌≡◌, ℕ, ◌+◌, ◌-◌, ◌≤◌, List, [], ◌∷◌, ◌++◌, length, take, drop, sym, ap, ◌∙◌, arith, length-append}
use Rattle.std.proofs.lemmas.List.{append-nil, append_assoc, take_all, take_at, drop_at, drop_all}
use Rattle.std.specs.List.{refill}
use Rattle.byteorder.specs.Endian.{big_bytes}
use Rattle.rand_chacha.specs.ChaCha.{ChaCha}
use Rattle.peer_codes.specs.declared.limits.TheConstants.{TAG_BYTES}
use Rattle.peer_codes.specs.declared.kind.Kind.{Kind}
use Rattle.peer_codes.specs.declared.way.Way.{Way}
use Rattle.peer_codes.specs.Kinds.{kind_byte}
use Rattle.peer_codes.specs.Spelling.{enveloped}
use Rattle.peer_codes.specs.Codes.{pad, xored, masked, record_tag, coded}
use Rattle.peer_codes.proofs.CodeLaws.{xored_length, covered_length}

behind : (front rest all : List ℕ) → length front ≡ 5 → all ≡ front ++ rest → drop 5 all ≡ rest
behind front rest all size is = ap (drop 5) is ∙ drop_at front rest 5 size

-- what stands behind the front
rest_is : (front rest all : List ℕ) → length front ≡ 5 → all ≡ front ++ rest → take (length all - 5) (drop 5 all) ≡ rest
rest_is front rest all size is =
    let count : length rest ≤ length all - 5 = omega (arith, ap length is, length-append front rest, size) in
    ap (take (length all - 5)) (behind front rest all size is) ∙ take_all (length all - 5) rest count

-- it is replaced by as many others
replaced : (front body sent all : List ℕ) → length front ≡ 5 → all ≡ front ++ body → take 5 all ++ (sent ++ drop (length all - 5) (drop 5 all)) ≡ front ++ sent
replaced front body sent all size is =
    let head : take 5 all ≡ front = ap (take 5) is ∙ take_at front body 5 size in
    let long : length all ≡ 5 + length body = omega (arith, ap length is, length-append front body, size) in
    let none : drop (length all - 5) (drop 5 all) ≡ [] = ap (drop (length all - 5)) (behind front body all size is) ∙ drop_all (length all - 5) body (omega (arith, long)) in
    ap (λ (l : List ℕ). take 5 all ++ (sent ++ l)) none ∙ ap (λ (l : List ℕ). take 5 all ++ l) (append-nil sent) ∙ ap (λ (l : List ℕ). l ++ sent) head

filled : (all others : List ℕ) → length others ≡ length all → refill (length all) all others ≡ others
filled all others same = take_at others _ (length all) same

front_of : (kind : Kind) (count : ℕ) (front content : List ℕ) → count ≡ length content → front ≡ big_bytes 4 (count + 1) ++ (kind_byte kind ∷ []) → front ++ content ≡ enveloped kind content
unfolding enveloped
front_of kind count front content same is =
    ap (λ (f : List ℕ). f ++ content) is
    ∙ append_assoc (big_bytes 4 (count + 1)) (kind_byte kind ∷ []) content
    ∙ ap (λ (n : ℕ). big_bytes 4 (n + 1) ++ (kind_byte kind ∷ content)) same

pub coded_is : (way : Way) (seal : ChaCha) (kind : Kind) (front body all shown sent hidden tag out : List ℕ)
    → front ≡ big_bytes 4 (length body + TAG_BYTES + 1) ++ (kind_byte kind ∷ [])
    → length front ≡ 5
    → all ≡ front ++ body
    → shown ≡ all
    → sent ≡ xored (take (length shown - 5) (drop 5 shown)) (pad (length (take (length shown - 5) (drop 5 shown))) way.seal).0
    → hidden ≡ refill (length all) all (take 5 shown ++ (sent ++ drop (length shown - 5) (drop 5 shown)))
    → tag ≡ record_tag (record { version = way.version; key = way.key; number = way.number; seal = seal }) kind (take (length hidden - 5) (drop 5 hidden))
    → out ≡ refill (length all) all (take 5 shown ++ (sent ++ drop (length shown - 5) (drop 5 shown))) ++ tag
    → out ≡ coded way kind body
coded_is way seal kind front body all shown sent hidden tag out begins size is same sent_by hidden_by tag_by out_by =
    let m : List ℕ = masked way body in
    let c : List ℕ = record_tag way kind m in
    let sent_is : sent ≡ m = sent_by ∙ ap (λ (l : List ℕ). xored l (pad (length l) way.seal).0) (rest_is front body shown size (same ∙ is)) in
    let equal : length sent ≡ length body = ap length sent_is ∙ xored_length body (pad (length body) way.seal).0 in
    let long : length (front ++ sent) ≡ length all = omega (arith, length-append front sent, equal, ap length is, length-append front body) in
    let put : take 5 shown ++ (sent ++ drop (length shown - 5) (drop 5 shown)) ≡ front ++ sent = replaced front body sent shown size (same ∙ is) in
    let whole : refill (length all) all (take 5 shown ++ (sent ++ drop (length shown - 5) (drop 5 shown))) ≡ front ++ sent = ap (refill (length all) all) put ∙ filled all (front ++ sent) long in
    let tag_is : tag ≡ c = tag_by ∙ ap (record_tag way kind) (rest_is front sent hidden size (hidden_by ∙ whole) ∙ sent_is) in
    out_by
    ∙ ap (λ (l : List ℕ). l ++ tag) whole
    ∙ ap (λ (l : List ℕ). (front ++ l) ++ tag) sent_is
    ∙ ap (λ (l : List ℕ). (front ++ m) ++ l) tag_is
    ∙ append_assoc front m c
    ∙ front_of kind (length body + TAG_BYTES) front (m ++ c) (sym (covered_length way kind body)) begins
