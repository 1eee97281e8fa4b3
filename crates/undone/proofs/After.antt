-- From the contract of call, and from what holds of entries and the desk that they stand for. Assumes nothing.
use Rattle.std.proofs.Common.{◌≡◌, ℕ, suc, ◌-◌, ◌≤◌, true, leb, List, [], ◌∷◌, sym, refl, ap, ◌∙◌, subst, arith}
use Rattle.std.proofs.lemmas.Bool.{le-leb}
use Rattle.model.specs.Paper.{Paper}
use Rattle.model.specs.Calls.{Call, undo, redo, Desk, Limits, how_much, rewritten, writes, turned, after}
use Rattle.model.specs.Promise.{readable}
use Rattle.codec.specs.Bytes.{call_bytes}
use Rattle.codec.specs.Reading.{Reading, reading, call_is}
use Rattle.codec.proofs.ReadsBack.{reads_back}
use Rattle.history.specs.Entry.{Entry, counts, entry_of, undo_of, redo_of, Can}
use Rattle.history.specs.Steps.{kept, StandsFor}
use Rattle.history.proofs.Undoing.{undo_brings_back as entry_undone, redo_does_again as entry_redone, counts_as_much}
use Rattle.history.proofs.Stepping.{not_turned, can_there, write_steps, undo_steps, redo_steps}
use Rattle.session.specs.Memory.{limits_of, paper_of, Stands}
use Rattle.session.specs.Contract.{Called, Does, Done}
use Rattle.undone.specs.Steps.{Wrote, UndoBringsBack, RedoDoesAgain}

-- an entry within the limit is kept
kept_one : (u : ℕ) (e : Entry) (es : List Entry) → counts e ≤ u → kept u (e ∷ es) ≡ e ∷ kept (u - counts e) es
unfolding kept
kept_one u e es h = let t : leb (counts e) u ≡ true = le-leb (counts e) u h in rw t refl

-- A desk that a paper and its entries stand for, a call that writes and counts no more than the limit, undo and redo.
module _ (l : Limits) (p : Paper) (back ahead : List Entry) (d : Desk) (c : Call) (st : StandsFor l p back ahead d) (can : (l.calls_can 5 ≡ true) × (l.calls_can 6 ≡ true))
    (writing : writes c ≡ true) (allowed : turned l d c ≡ 0) (within : suc (how_much d.now c) ≤ l.undos) where
  abbrev e : Entry
  e = entry_of p c

  abbrev new : Paper
  new = rewritten p c

  abbrev rest : List Entry
  rest = kept (l.undos - counts e) back

  there : Can p c
  there = subst (λ (q : Paper). Can q c) st.now (can_there d c writing (not_turned l d c allowed).1)

  few : counts e ≤ l.undos
  few =
      let a = counts_as_much p c there in
      let b : how_much d.now c ≡ how_much p c = ap (λ (q : Paper). how_much q c) st.now in
      omega arith

  wrote : StandsFor l new (e ∷ rest) [] (after l d c)
  wrote =
      subst (λ (es : List Entry). StandsFor l new es [] (after l d c)) (kept_one l.undos e back few)
      (write_steps l p back ahead d c st writing allowed)

  undid : StandsFor l (undo_of e new) rest (e ∷ []) (after l (after l d c) undo)
  undid = undo_steps l new e rest [] (after l d c) wrote can.0

  redid : StandsFor l (redo_of e (undo_of e new)) (e ∷ rest) [] (after l (after l (after l d c) undo) redo)
  redid = redo_steps l (undo_of e new) e rest [] (after l (after l d c) undo) undid can.1

  before_again : (after l (after l d c) undo).now ≡ p
  before_again = undid.now ∙ entry_undone p c there

  after_again : (after l (after l (after l d c) undo) redo).now ≡ (after l d c).now
  after_again = redid.now ∙ ap (redo_of e) (entry_undone p c there) ∙ entry_redone p c there ∙ sym wrote.now

-- a call that could be read
done_by : (cs ps us bs cs' ps' us' rs : List ℕ) (d : Desk) (c : Call) → Stands cs ps us d → reading bs ≡ call_is c → Called cs ps us bs cs' ps' us' rs → Done cs ps us d c cs' ps' us' rs
done_by cs ps us bs cs' ps' us' rs d c st reads called = subst (λ (r : Reading). Does r cs ps us cs' ps' us' rs) reads called.does d st

undo_reads : reading (call_bytes undo) ≡ call_is undo
unfolding readable
undo_reads = reads_back undo refl

redo_reads : reading (call_bytes redo) ≡ call_is redo
unfolding readable
redo_reads = reads_back redo refl

module _ (cs ps us bs cs₁ ps₁ us₁ rs₁ cs₂ ps₂ us₂ rs₂ : List ℕ) (d : Desk) (c : Call) (wrote : Wrote cs ps us bs cs₁ ps₁ us₁ rs₁ d c)
    (undoes : Called cs₁ ps₁ us₁ (call_bytes undo) cs₂ ps₂ us₂ rs₂) where
  abbrev l : Limits
  l = limits_of ps

  first : Done cs ps us d c cs₁ ps₁ us₁ rs₁
  first = done_by cs ps us bs cs₁ ps₁ us₁ rs₁ d c wrote.stands wrote.reads wrote.called

  second : Done cs₁ ps₁ us₁ (after l d c) undo cs₂ ps₂ us₂ rs₂
  second = done_by cs₁ ps₁ us₁ (call_bytes undo) cs₂ ps₂ us₂ rs₂ (after l d c) undo first.stands undo_reads undoes

  same : after (limits_of ps₁) (after l d c) undo ≡ after l (after l d c) undo
  same = ap (λ (k : Limits). after k (after l d c) undo) first.limits

  back : paper_of cs₂ ps₂ ≡ paper_of cs ps
  back =
      let s = wrote.stands.sound in
      let is = before_again l (paper_of cs ps) s.back s.ahead d c wrote.stands.desk (refl, refl) wrote.writing wrote.allowed wrote.within in
      sym second.stands.desk.now ∙ (ap (λ (x : Desk). x.now) same ∙ is)

  module _ (cs₃ ps₃ us₃ rs₃ : List ℕ) (redoes : Called cs₂ ps₂ us₂ (call_bytes redo) cs₃ ps₃ us₃ rs₃) where
    abbrev undone_desk : Desk
    undone_desk = after (limits_of ps₁) (after l d c) undo

    third : Done cs₂ ps₂ us₂ undone_desk redo cs₃ ps₃ us₃ rs₃
    third = done_by cs₂ ps₂ us₂ (call_bytes redo) cs₃ ps₃ us₃ rs₃ undone_desk redo second.stands redo_reads redoes

    limits : limits_of ps₂ ≡ l
    limits = second.limits ∙ first.limits

    again : paper_of cs₃ ps₃ ≡ paper_of cs₁ ps₁
    again =
        let a : after (limits_of ps₂) undone_desk redo ≡ after l undone_desk redo = ap (λ (k : Limits). after k undone_desk redo) limits in
        let b : after l undone_desk redo ≡ after l (after l (after l d c) undo) redo = ap (λ (x : Desk). after l x redo) same in
        let s = wrote.stands.sound in
        let is = after_again l (paper_of cs ps) s.back s.ahead d c wrote.stands.desk (refl, refl) wrote.writing wrote.allowed wrote.within in
        sym third.stands.desk.now ∙ (ap (λ (x : Desk). x.now) (a ∙ b) ∙ (is ∙ first.stands.desk.now))

pub undo_brings_back : UndoBringsBack
undo_brings_back cs ps us bs cs₁ ps₁ us₁ rs₁ cs₂ ps₂ us₂ rs₂ d c wrote undoes = back cs ps us bs cs₁ ps₁ us₁ rs₁ cs₂ ps₂ us₂ rs₂ d c wrote undoes

pub redo_does_again : RedoDoesAgain
redo_does_again cs ps us bs cs₁ ps₁ us₁ rs₁ cs₂ ps₂ us₂ rs₂ cs₃ ps₃ us₃ rs₃ d c wrote undoes redoes =
    again cs ps us bs cs₁ ps₁ us₁ rs₁ cs₂ ps₂ us₂ rs₂ d c wrote undoes cs₃ ps₃ us₃ rs₃ redoes
