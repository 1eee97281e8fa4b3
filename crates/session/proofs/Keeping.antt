-- The main promise, from the contracts of open and call, which cite the model's own `after` and `answer`. Assumes nothing.
use Rattle.std.proofs.Common.{◌≡◌, ℕ, zero, suc, ◌+◌, ◌*◌, ◌<◌, ◌≤◌, Bool, true, false, ◌&&◌, ltb, List, [], ◌∷◌, ◌++◌, length, get_or, drop, sym, refl, ap, ◌∙◌, subst, ap₂, arith, lt-ltb}
use Rattle.std.proofs.lemmas.List.{length-append}
use Rattle.model.specs.Calls.{Call, Desk, Limits, turned, after, answer, answers, ran, new_desk}
use Rattle.model.specs.Promise.{GoodLimits, readable, all_readable, all_below, Memory, Keeper, told_by, left_by, Right, EnoughMemory, RefusalKeeps}
use Rattle.codec.specs.Bytes.{answer_bytes}
use Rattle.codec.specs.Reading.{Reading, reading, call_is, ceases}
use Rattle.codec.specs.Laws.{ReadsBack, OneAnswer}
use Rattle.session.specs.Memory.{stage, pieces_words, limits_of, Stands, opened_pieces}
use Rattle.session.specs.Contract.{Does, Done, Fit, Opened}
use Rattle.session.specs.Keeping.{Holds, Opens, Calls, Meets, MainPromise, byte_answer, byte_after, bytes_answers, Chain, ends, goes, AnyChain, FromOpening}

-- one link of a chain
link : (r : Reading) (cs ps us cs' ps' us' rs : List ℕ) (d : Desk) → Does r cs ps us cs' ps' us' rs → Stands cs ps us d →
    (rs ≡ byte_answer (limits_of ps) d r) × Stands cs' ps' us' (byte_after (limits_of ps) d r)
link (ceases i) cs ps us cs' ps' us' rs d h st = (h.3, rw (h.0, h.1, h.2) st)
link (call_is c) cs ps us cs' ps' us' rs d h st = ((h d st).says, (h d st).stands)

chained : {cs ps us : List ℕ} {bss rss : List (List ℕ)} (d : Desk) → Stands cs ps us d → Chain cs ps us bss rss → rss ≡ bytes_answers (limits_of ps) d bss
unfolding bytes_answers
chained d st ends = refl
chained {ps = ps} d st (goes {cs = cs} {us = us} {cs' = cs'} {ps' = ps'} {us' = us'} {bs = bs} {rs = rs} {bss = bss} {rss = rss} k rest) =
    let s : (rs ≡ byte_answer (limits_of ps) d (reading bs)) × Stands cs' ps' us' (byte_after (limits_of ps) d (reading bs)) =
    link (reading bs) cs ps us cs' ps' us' rs d k.does st in
    let e : rss ≡ bytes_answers (limits_of ps') (byte_after (limits_of ps) d (reading bs)) bss = chained (byte_after (limits_of ps) d (reading bs)) s.1 rest in
    let same : limits_of ps' ≡ limits_of ps = k.limits in
    let f : bytes_answers (limits_of ps') (byte_after (limits_of ps) d (reading bs)) bss ≡ bytes_answers (limits_of ps) (byte_after (limits_of ps) d (reading bs)) bss =
    ap (λ (l : Limits). bytes_answers l (byte_after (limits_of ps) d (reading bs)) bss) same in
    ap₂ ◌∷◌ s.0 (e ∙ f)

pub any_chain : AnyChain
any_chain cs ps us d bss rss st chain = chained d st chain

-- tests that hold together
both_left : (a b : Bool) → (a && b) ≡ true → a ≡ true
both_left true b h = refl
both_left false b h = h

both_right : (a b : Bool) → (a && b) ≡ true → b ≡ true
both_right true b h = h
both_right false b h = let z : ◌≡◌ {A = Bool} false true = h in cc

all_below_at : (xs : List ℕ) → ((i : ℕ) → get_or xs i 0 < 4294967296) → all_below 4294967296 xs ≡ true
unfolding all_below
all_below_at [] h = refl
all_below_at (x ∷ xs) h =
    let a : ltb x 4294967296 ≡ true = lt-ltb x 4294967296 (h 0) in
    let b : all_below 4294967296 xs ≡ true = all_below_at xs (λ i. h (suc i)) in
    rw (a, b) refl

at_append : (xs ys : List ℕ) → ((i : ℕ) → get_or xs i 0 < 4294967296) → ((i : ℕ) → get_or ys i 0 < 4294967296) → (i : ℕ) → get_or (xs ++ ys) i 0 < 4294967296
at_append [] ys h k i = k i
at_append (x ∷ xs) ys h k zero = h 0
at_append (x ∷ xs) ys h k (suc i) = at_append xs ys (λ j. h (suc j)) k i

readable_last : (cs : List Call) (c : Call) → all_readable (cs ++ (c ∷ [])) ≡ true → (all_readable cs ≡ true) × (readable c ≡ true)
unfolding all_readable
readable_last [] c h = (refl, both_left (readable c) true h)
readable_last (x ∷ cs) c h =
    let a : readable x ≡ true = both_left (readable x) (all_readable (cs ++ (c ∷ []))) h in
    let p : (all_readable cs ≡ true) × (readable c ≡ true) = readable_last cs c (both_right (readable x) (all_readable (cs ++ (c ∷ []))) h) in
    (rw (a, p.0) refl, p.1)

-- the limits that memory has, at this stage
abbrev staged : Limits → Limits
staged l = record { calls_can = stage; cells = l.cells; changes = l.changes; undos = l.undos }

-- a keeper's memory that stands for a desk
record At (l : Limits) (m : Memory) (d : Desk) : Type 0 where
  cells : List ℕ
  pieces : List ℕ
  undo : List ℕ
  holds : Holds m cells pieces undo
  stands : Stands cells pieces undo d
  limits : limits_of pieces ≡ staged l
  fit : Fit cells pieces undo

-- memory that was opened has the limits that it was opened with
opened_limits : (l : Limits) (cs ps us cs' ps' us' : List ℕ) → Opened l.cells l.changes l.undos cs ps us cs' ps' us' → limits_of ps' ≡ staged l
opened_limits l cs ps us cs' ps' us' o =
    let is : ps' ≡ opened_pieces l.cells l.changes l.undos ++ drop (pieces_words l.changes) ps = o.pieces in
    let a : get_or ps' 0 0 ≡ l.cells = ap (λ (ws : List ℕ). get_or ws 0 0) is in
    let b : get_or ps' 1 0 ≡ l.changes = ap (λ (ws : List ℕ). get_or ws 1 0) is in
    let c : get_or ps' 2 0 ≡ l.undos = ap (λ (ws : List ℕ). get_or ws 2 0) is in
    cc

staged_is : (l : Limits) → l.calls_can ≡ stage → staged l ≡ l
staged_is l can = ap (λ (f : ℕ → Bool). record { calls_can = f; cells = l.cells; changes = l.changes; undos = l.undos }) (sym can)

pub from_opening : FromOpening
from_opening l cs ps us cs' ps' us' bss rss can o chain =
    chained new_desk o.stands chain ∙ ap (λ (n : Limits). bytes_answers n new_desk bss) (opened_limits l cs ps us cs' ps' us' o ∙ staged_is l can)

opened_at : (e : Keeper) → Meets e → (l : Limits) → GoodLimits l → At l (e.opens l) new_desk
opened_at e meets l good =
    let o : Opens l (e.opens l) = meets.opens l good in
    record {
      cells = o.cells;
      pieces = o.pieces;
      undo = o.undo;
      holds = o.holds;
      stands = o.opened.stands;
      limits = opened_limits l o.cells_before o.pieces_before o.undo_before o.cells o.pieces o.undo o.opened;
      fit = o.opened.fit;
    }

-- what one call of a keeper does
record Next (e : Keeper) (l : Limits) (m : Memory) (d : Desk) (c : Call) : Type 0 where
  at : At l (e.next m c) (after (staged l) d c)
  says : e.says m c ≡ answer (staged l) d c
  kept : 0 < turned (staged l) d c → e.next m c ≡ m

module _ (back : ReadsBack) (one : OneAnswer) (e : Keeper) (meets : Meets e) (l : Limits) where
  next_at : (m : Memory) (d : Desk) (c : Call) → readable c ≡ true → At l m d → Next e l m d c
  next_at m d c h x =
      let cs : List ℕ = x.cells in
      let ps : List ℕ = x.pieces in
      let us : List ℕ = x.undo in
      let k : Calls cs ps us c (e.next m c) (e.says m c) = meets.calls m cs ps us c x.holds x.stands.sound x.fit h in
      let bs : List ℕ = answer_bytes (e.says m c) in
      let does : Does (call_is c) cs ps us k.cells k.pieces k.undo bs =
      subst (λ (r : Reading). Does r cs ps us k.cells k.pieces k.undo bs) (back c h) k.called.does in
      let done : Done cs ps us d c k.cells k.pieces k.undo bs = does d x.stands in
      let stands : Stands k.cells k.pieces k.undo (after (staged l) d c) =
      subst (λ (n : Limits). Stands k.cells k.pieces k.undo (after n d c)) x.limits done.stands in
      let says : e.says m c ≡ answer (staged l) d c =
      one (e.says m c) (answer (limits_of ps) d c) done.says ∙ ap (λ (n : Limits). answer n d c) x.limits in
      record {
        at = record {
          cells = k.cells;
          pieces = k.pieces;
          undo = k.undo;
          holds = k.holds;
          stands = stands;
          limits = done.limits ∙ x.limits;
          fit = k.called.fit;
        };
        says = says;
        kept = λ t.
            let was : 0 < turned (limits_of ps) d c = subst (λ (n : Limits). 0 < turned n d c) (sym x.limits) t in
            let same : (k.cells ≡ cs) × (k.pieces ≡ ps) × (k.undo ≡ us) = done.kept was in
            let a : k.cells ≡ cs = same.0 in
            let b : k.pieces ≡ ps = same.1 in
            let o : k.undo ≡ us = same.2 in
            let after-words : (e.next m c).words ≡ k.pieces ++ (k.cells ++ k.undo) = k.holds.words in
            let words : m.words ≡ ps ++ (cs ++ us) = x.holds.words in
            let w : (e.next m c).words ≡ m.words = cc in
            ap (λ (ws : List ℕ). record { words = ws }) w;
      }

  told : (m : Memory) (d : Desk) (cs : List Call) → all_readable cs ≡ true → At l m d → told_by e m cs ≡ answers (staged l) d cs
  unfolding told_by answers all_readable
  told m d [] h x = refl
  told m d (c ∷ cs) h x =
      let n : Next e l m d c = next_at m d c (both_left (readable c) (all_readable cs) h) x in
      ap₂ ◌∷◌ n.says (told (e.next m c) (after (staged l) d c) cs (both_right (readable c) (all_readable cs) h) n.at)

  left_at : (m : Memory) (d : Desk) (cs : List Call) → all_readable cs ≡ true → At l m d → At l (left_by e m cs) (ran (staged l) d cs)
  unfolding left_by ran all_readable
  left_at m d [] h x = x
  left_at m d (c ∷ cs) h x =
      let n : Next e l m d c = next_at m d c (both_left (readable c) (all_readable cs) h) x in
      left_at (e.next m c) (after (staged l) d c) cs (both_right (readable c) (all_readable cs) h) n.at

-- memory is within its bound
enough : (l : Limits) (m : Memory) (d : Desk) → At l m d →
    (length m.words ≤ 8 * l.cells + 8 * l.changes + 16 * l.undos + 65536) × (all_below 4294967296 m.words ≡ true)
enough l m d x =
    let words : m.words ≡ x.pieces ++ (x.cells ++ x.undo) = x.holds.words in
    let size : length m.words ≡ length x.pieces + (length x.cells + length x.undo) =
    ap length words ∙ (length-append x.pieces (x.cells ++ x.undo) ∙ ap (λ (n : ℕ). length x.pieces + n) (length-append x.cells x.undo)) in
    let a : get_or x.pieces 0 0 ≡ l.cells = ap (λ (n : Limits). n.cells) x.limits in
    let b : get_or x.pieces 1 0 ≡ l.changes = ap (λ (n : Limits). n.changes) x.limits in
    let o : get_or x.pieces 2 0 ≡ l.undos = ap (λ (n : Limits). n.undos) x.limits in
    let low : (length m.words ≤ 8 * l.cells + 8 * l.changes + 16 * l.undos + 65536) = omega arith in
    let high : all_below 4294967296 (x.pieces ++ (x.cells ++ x.undo)) ≡ true =
    all_below_at (x.pieces ++ (x.cells ++ x.undo)) (at_append x.pieces (x.cells ++ x.undo) x.fit.1 (at_append x.cells x.undo x.fit.0 x.fit.2)) in
    (low, ap (all_below 4294967296) words ∙ high)

pub main_promise : ReadsBack → OneAnswer → MainPromise
unfolding Right EnoughMemory RefusalKeeps
main_promise back one e meets = (
  λ l cs can good h.
      let same : staged l ≡ l = staged_is l can in
      told back one e meets l (e.opens l) new_desk cs h (opened_at e meets l good) ∙ ap (λ (n : Limits). answers n new_desk cs) same,
  λ l cs good h. enough l (left_by e (e.opens l) cs) (ran (staged l) new_desk cs) (left_at back one e meets l (e.opens l) new_desk cs h (opened_at e meets l good)),
  λ l cs c can good h t.
      let same : staged l ≡ l = staged_is l can in
      let parts : (all_readable cs ≡ true) × (readable c ≡ true) = readable_last cs c h in
      let x : At l (left_by e (e.opens l) cs) (ran (staged l) new_desk cs) = left_at back one e meets l (e.opens l) new_desk cs parts.0 (opened_at e meets l good) in
      let t' : 0 < turned (staged l) (ran (staged l) new_desk cs) c = subst (λ (n : Limits). 0 < turned n (ran n new_desk cs) c) (sym same) t in
      (next_at back one e meets l (left_by e (e.opens l) cs) (ran (staged l) new_desk cs) c parts.1 x).kept t',
)
