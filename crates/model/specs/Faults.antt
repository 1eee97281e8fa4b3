-- Known ways in which papers with changes go wrong, each as a promise that it does not happen here. Nothing is assumed.
use Rattle.std.specs.Prelude.{◌≡◌, ℕ, suc, Bool, true, not, ◌&&◌, List, [], ◌∷◌, ◌++◌, length, take, drop, ◌==◌}
use Rattle.model.specs.Paper.{Cell, Change, Paper, author_of, touched}
use Rattle.model.specs.Calls.{Call, put, strikes, rejects, redo, Desk, Limits, refused, writes, rewritten, turned, after, answer}
use Rattle.model.specs.Promise.{decided, below}

-- A mark is kept by a change that is gone. Here, once a change is decided, no cell has its mark.
unfoldable pub AllMarksGone : Type 0
AllMarksGone = (a : Bool) (xs : List Cell) (c : ℕ) → touched (decided a xs c) c ≡ 0

-- none of the cells was put in by an open change of author a
unfoldable pub none_by : List Cell → List Change → ℕ → Bool
none_by [] cs a = true
none_by (x ∷ xs) cs a = not (author_of cs x.put_in == suc a) && none_by xs cs a

-- the paper p with one more change, of author a, that was rejected
abbrev pub with_rejected : Paper → ℕ → Paper
with_rejected p a = record { cells = p.cells; changes = p.changes ++ (record { author = a; became = 2 } ∷ []) }

-- A second strike takes over what the first struck. Here a letter that is struck out already stays with the change that struck it first:
-- a strike at letters of others that is rejected leaves every cell as it was before the strike.
unfoldable pub StrikeThenReject : Type 0
StrikeThenReject =
    (p : Paper) (a i n : ℕ) → below p.cells (length p.changes) ≡ true → none_by (take n (drop i p.cells)) p.changes a ≡ true →
    rewritten (rewritten p (strikes a i n)) (rejects (length p.changes)) ≡ with_rejected p a

-- and so does a put that is rejected
unfoldable pub PutThenReject : Type 0
PutThenReject =
    (p : Paper) (a i s : ℕ) (ls : List ℕ) → below p.cells (length p.changes) ≡ true →
    rewritten (rewritten p (put a i s ls)) (rejects (length p.changes)) ≡ with_rejected p a

-- What was undone is done again after something new was written. Here, after a call that writes, there is nothing to redo.
unfoldable pub NothingToRedo : Type 0
NothingToRedo =
    (l : Limits) (d : Desk) (c : Call) → writes c ≡ true → turned l d c ≡ 0 → l.calls_can 6 ≡ true → answer l (after l d c) redo ≡ refused 7 0
