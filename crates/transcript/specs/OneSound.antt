-- Memory is sound in one way at most: the words of a log are those of one pair of lists of entries. Assumes nothing. It stands here and not in proofs/,
-- since a ghost field cites of its own crate only what stands in specs/.
use Rattle.std.specs.Prelude.{ℕ, List, [], ◌∷◌, slice_index}
use Rattle.std.proofs.Props.{props}
use mathlib.Core.HLevel.{is_prop→PathP, Unit-prop}
use native.Mathlib.Bridge.{le_prop}
use Rattle.model.specs.Paper.{Paper}
use Rattle.model.specs.Calls.{Limits}
use Rattle.history.specs.Entry.{Entry, undo_of, redo_of}
use Rattle.history.specs.Steps.{Made, SaneBack, SaneAhead, Sane}
use Rattle.history.specs.Log.{Log}
use Rattle.history.proofs.Logging.{one_log}
use Rattle.kept.specs.Kept.{Tallies}
use Rattle.session.specs.Memory.{limits_of, paper_of, Held, Sound}

entry_set : IsSet Entry
entry_set = hlevel props

paper_set : IsSet Paper
paper_set = hlevel props

made_prop : (l : Limits) (e : Entry) (p q : Paper) → IsProp (Made l e p q)
made_prop l e p q = hlevel (props, entry_set, paper_set)

behind_prop : (l : Limits) (es : List Entry) (p : Paper) → IsProp (SaneBack l es p)
unfolding SaneBack
behind_prop l [] p = Unit-prop
behind_prop l (e ∷ es) p = hlevel (made_prop, behind_prop l es (undo_of e p))

before_prop : (l : Limits) (es : List Entry) (p : Paper) → IsProp (SaneAhead l es p)
unfolding SaneAhead
before_prop l [] p = Unit-prop
before_prop l (e ∷ es) p = hlevel (made_prop, before_prop l es (redo_of e p))

sane_prop : (l : Limits) (p : Paper) (back ahead : List Entry) → IsProp (Sane l p back ahead)
sane_prop l p back ahead = hlevel (props, behind_prop, before_prop)

log_prop : (us : List ℕ) (n : ℕ) (back ahead : List Entry) → IsProp (Log us n back ahead)
log_prop us n back ahead = hlevel props

tallies_prop : (c p : List ℕ) (s : ℕ) → IsProp (Tallies c p s)
unfolding Tallies
tallies_prop c p s = hlevel props

held_prop : (cs ps : List ℕ) → IsProp (Held cs ps)
held_prop cs ps = hlevel (props, tallies_prop)

pub sound_prop : (cs ps us : List ℕ) → IsProp (Sound cs ps us)
sound_prop cs ps us a b =
    let e = one_log us _ _ _ a.back a.ahead b.back b.ahead a.log.words b.log.words in
    λ i. record {
      held = held_prop cs ps a.held b.held i;
      undo_long = le_prop a.undo_long b.undo_long i;
      back = e.0 i;
      ahead = e.1 i;
      log = is_prop→PathP (λ j. Log us (slice_index ps 2) (e.0 j) (e.1 j)) (λ j. log_prop us (slice_index ps 2) (e.0 j) (e.1 j)) a.log b.log i;
      sane = is_prop→PathP (λ j. Sane (limits_of ps) (paper_of cs ps) (e.0 j) (e.1 j)) (λ j. sane_prop (limits_of ps) (paper_of cs ps) (e.0 j) (e.1 j)) a.sane b.sane i;
    }
