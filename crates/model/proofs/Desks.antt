-- What holds of every paper of a desk, the one that is there and those that undo and redo bring back, holds after a call too, if it holds of what
-- the call writes. Assumes nothing.
use Rattle.std.proofs.Common.{◌≡◌, ℕ, suc, ◌-◌, eqb, leb, List, [], ◌∷◌}
use Rattle.std.specs.List.{AllByRecursion}
use Rattle.std.proofs.lemmas.Bool.{eqb-true}
use Rattle.model.specs.Paper.{Paper}
use Rattle.model.specs.Calls.{Call, put, strikes, accepts, rejects, styles, undo, redo, show, find, count, change, save, Before, Desk, Limits, rewritten, how_much, writes, remembered, undone, redone, moved, changed, turned, after}
use Rattle.model.proofs.Rows.{by_test}

module _ (Q : Paper → Type 0) where
  abbrev AllBefore : List Before → Type 0
  AllBefore bs = AllByRecursion (λ (b : Before). Q b.paper) bs

  pub record OnDesk (d : Desk) : Type 0 where
    pub now : Q d.now
    pub past : AllBefore d.past
    pub future : AllBefore d.future

  remembered_all : (u : ℕ) (bs : List Before) → AllBefore bs → AllBefore (remembered u bs)
  unfolding remembered
  remembered_all u [] h = tt
  remembered_all u (b ∷ bs) h =
      by_test (leb (suc b.much) u) (b ∷ remembered (u - suc b.much) bs) [] AllBefore (λ _. (h.0, remembered_all (u - suc b.much) bs h.1)) (λ _. tt)

  undone_all : (d : Desk) (bs : List Before) → OnDesk d → AllBefore bs → OnDesk (undone d bs)
  unfolding undone
  undone_all d [] k h = k
  undone_all d (b ∷ bs) k h = record { now = h.0; past = h.1; future = (k.now, k.future) }

  redone_all : (d : Desk) (bs : List Before) → OnDesk d → AllBefore bs → OnDesk (redone d bs)
  unfolding redone
  redone_all d [] k h = k
  redone_all d (b ∷ bs) k h = record { now = h.0; past = (k.now, k.past); future = h.1 }

  moved_all : (l : Limits) (d : Desk) (c : Call) → OnDesk d → OnDesk (moved l d c)
  unfolding moved
  moved_all l d undo k = undone_all d d.past k k.past
  moved_all l d redo k = redone_all d d.future k k.future
  moved_all l d (put a i s ls) k = k
  moved_all l d (strikes a i n) k = k
  moved_all l d (accepts c) k = k
  moved_all l d (rejects c) k = k
  moved_all l d (styles i n s) k = k
  moved_all l d (show m w r n) k = k
  moved_all l d (find m i ls) k = k
  moved_all l d (count m) k = k
  moved_all l d (change c) k = k
  moved_all l d (save i n) k = k

  pub after_all : (l : Limits) (d : Desk) (c : Call) → (turned l d c ≡ 0 → Q (rewritten d.now c)) → OnDesk d → OnDesk (after l d c)
  after_all l d c f k =
      by_test (eqb (turned l d c) 0) (changed l d c) d OnDesk
      (λ t.
      by_test (writes c) _ (moved l d c) OnDesk
      (λ _.
      record {
        now = f (eqb-true _ _ t);
        past = remembered_all l.undos (record { paper = d.now; much = how_much d.now c } ∷ d.past) (k.now, k.past);
        future = tt;
      })
      (λ _. moved_all l d c k))
      (λ _. k)
