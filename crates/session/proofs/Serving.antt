-- From the desk that memory holds to every desk that memory stands for: what a call other than undo and redo does to the paper and answers depends on the
-- paper alone, and what it does to the log is what the entries' laws say. Assumes nothing.
use Rattle.std.proofs.Common.{◌≡◌, ℕ, suc, ◌<◌, ◌≤◌, min, Bool, true, false, eqb, List, [], ◌∷◌, ◌++◌, length, get_or, take, drop, Ok, Err, Result, sym, refl, ap, ◌∙◌, subst, arith}
use Rattle.model.specs.Paper.{pick, Paper}
use Rattle.model.specs.Calls.{Call, put, strikes, accepts, rejects, styles, undo, redo, show, find, count, change, save, Answer, Desk, Limits, refused, call_number, turned_by, writes, rewritten, good_call, told, turned, after, place, answer}
use Rattle.codec.specs.Bytes.{answer_bytes}
use Rattle.codec.specs.Reading.{Reading, reading, call_is, ceases}
use Rattle.history.specs.Entry.{Entry, entry_of}
use Rattle.history.specs.Steps.{kept, StandsFor, desk_of as desk_for}
use Rattle.history.specs.Log.{Log}
use Rattle.history.proofs.Stepping.{write_steps, turned_keeps, looking_keeps}
use Rattle.session.specs.Memory.{limits_of, paper_of, Sound, Stands}
use Rattle.session.specs.Acts.{Wrote, desk_of, Acted, Recorded}
use Rattle.session.specs.Contract.{Beyond, Does, Done, Fit, Called, Handled}
use Rattle.session.specs.Desks.{Ended, Said, Tried}
use Rattle.session.specs.Refusals.{refusal_told}
use Rattle.session.specs.declared.refusal.Refusal.{Refusal}
use Rattle.session.specs.declared.refusal.Refusal.TheVariants.{NotACall}
use Rattle.session.proofs.Acting.{apart, turned_range}
use Rattle.session.proofs.Saying.{first_bytes, first_within, nowhere, said}

-- a desk with this paper and nothing to undo or redo
abbrev bare : Paper → Desk
bare p = record { now = p; past = []; future = [] }

-- the calls that depend on the paper alone
abbrev pub by_paper : Call → Bool
by_paper (put a i s ls) = true
by_paper (strikes a i n) = true
by_paper (accepts c) = true
by_paper (rejects c) = true
by_paper (styles i n s) = true
by_paper undo = false
by_paper redo = false
by_paper (show k w r n) = true
by_paper (find k i ls) = true
by_paper (count k) = true
by_paper (change c) = true
by_paper (save i n) = true

module _ (ps : List ℕ) (d : Desk) where
  turned_same : (c : Call) → by_paper c ≡ true → turned (limits_of ps) d c ≡ turned (limits_of ps) (bare d.now) c
  unfolding call_number turned_by
  turned_same (put a i s ls) h = refl
  turned_same (strikes a i n) h = refl
  turned_same (accepts c) h = refl
  turned_same (rejects c) h = refl
  turned_same (styles i n s) h = refl
  turned_same undo h = let z : ◌≡◌ {A = Bool} false true = h in cc
  turned_same redo h = let z : ◌≡◌ {A = Bool} false true = h in cc
  turned_same (show k w r n) h = refl
  turned_same (find k i ls) h = refl
  turned_same (count k) h = refl
  turned_same (change c) h = refl
  turned_same (save i n) h = refl

  answer_same : (c : Call) → by_paper c ≡ true → answer (limits_of ps) d c ≡ answer (limits_of ps) (bare d.now) c
  unfolding call_number turned_by told
  answer_same (put a i s ls) h = refl
  answer_same (strikes a i n) h = refl
  answer_same (accepts c) h = refl
  answer_same (rejects c) h = refl
  answer_same (styles i n s) h = refl
  answer_same undo h = let z : ◌≡◌ {A = Bool} false true = h in cc
  answer_same redo h = let z : ◌≡◌ {A = Bool} false true = h in cc
  answer_same (show k w r n) h = refl
  answer_same (find k i ls) h = refl
  answer_same (count k) h = refl
  answer_same (change c) h = refl
  answer_same (save i n) h = refl

-- memory with the paper p and these entries, after a write
pub stands_at : (cs ps us cs' ps' us' : List ℕ) (p : Paper) (back ahead : List Entry) (d : Desk) → Sound cs ps us → Wrote cs ps cs' ps' p →
    length us' ≡ length us → Log us' (get_or ps 2 0) back ahead → StandsFor (limits_of ps) p back ahead d → Stands cs' ps' us' d
stands_at cs ps us cs' ps' us' p back ahead d sound w long log desk =
    let u : get_or ps' 2 0 ≡ get_or ps 2 0 = ap (λ (l : Limits). l.undos) w.limits in
    let there : StandsFor (limits_of ps) (paper_of cs' ps') back ahead d = subst (λ (q : Paper). StandsFor (limits_of ps) q back ahead d) (sym w.paper) desk in
    let here : StandsFor (limits_of ps') (paper_of cs' ps') back ahead d = subst (λ (l : Limits). StandsFor l (paper_of cs' ps') back ahead d) (sym w.limits) there in
    record {
      sound = record {
        held = w.held;
        undo_long = omega (arith, u, long, sound.undo_long);
        back = back;
        ahead = ahead;
        log = subst (λ (n : ℕ). Log us' n back ahead) (sym u) log;
        sane = here.sane;
      };
      desk = here;
    }

-- a call that is turned away, whichever it is
pub turned_done : (cs ps us : List ℕ) (c : Call) (n : ℕ) (d : Desk) → Stands cs ps us d → turned (limits_of ps) d c ≡ suc n →
    Done cs ps us d c cs ps us (answer_bytes (refused (suc n) (place c (suc n))))
turned_done cs ps us c n d st t =
    let l : Limits = limits_of ps in
    let says : answer l d c ≡ refused (suc n) (place c (suc n)) =
    ap (λ (m : ℕ). pick (eqb m 0) (told d c) (refused m (place c m))) t ∙ ap (λ (b : Bool). pick b (told d c) (refused (suc n) (place c (suc n)))) (apart n) in
    record {
      stands = record { sound = st.sound; desk = turned_keeps l (paper_of cs ps) st.sound.back st.sound.ahead d c st.desk (omega (arith, t)) };
      limits = refl;
      says = ap answer_bytes (sym says);
      kept = λ h. (refl, refl, refl);
    }

pub same_beyond : (cs ps us : List ℕ) → Beyond cs ps us cs ps us (limits_of ps)
same_beyond cs ps us = record { cells = refl; pieces = refl; undo = refl; cells_length = refl; pieces_length = refl; undo_length = refl }

pub out_handled : (cs ps us : List ℕ) (c : Call) → good_call (limits_of ps) c ≡ false → Handled cs ps us c cs ps us (answer_bytes (refused 2 0))
out_handled cs ps us c bad =
    record {
      does = λ d st.
          subst (λ (i : ℕ). Done cs ps us d c cs ps us (answer_bytes (refused 2 i))) (nowhere c) (turned_done cs ps us c 1 d st (turned_range (limits_of ps) d c bad));
      beyond = same_beyond cs ps us;
    }

-- a call that writes
never : (n : ℕ) (A : Type 0) → n ≡ 0 → 0 < n → A
never n A e h = absurd (omega arith)

module _ (cs ps us : List ℕ) (c : Call) (by : by_paper c ≡ true) where
  abbrev l : Limits
  l = limits_of ps

  here : (d : Desk) → Stands cs ps us d → bare d.now ≡ desk_of cs ps
  here d st = ap bare st.desk.now

  turned_here : (d : Desk) → Stands cs ps us d → turned l d c ≡ turned l (desk_of cs ps) c
  turned_here d st = turned_same ps d c by ∙ ap (λ (e : Desk). turned l e c) (here d st)

  answer_here : (d : Desk) → Stands cs ps us d → answer l d c ≡ answer l (desk_of cs ps) c
  answer_here d st = answer_same ps d c by ∙ ap (λ (e : Desk). answer l e c) (here d st)

  -- one that is turned away
  pub refused_handled : (n : ℕ) → turned l (desk_of cs ps) c ≡ suc n → Handled cs ps us c cs ps us (answer_bytes (refused (suc n) (place c (suc n))))
  refused_handled n t = record { does = λ d st. turned_done cs ps us c n d st (turned_here d st ∙ t); beyond = same_beyond cs ps us }

  -- one that is done: its entry was recorded, and the paper was written
  pub wrote_handled : {cs' ps' us' : List ℕ} → turned l (desk_of cs ps) c ≡ 0 → writes c ≡ true → Recorded us us' (get_or ps 2 0) (entry_of (paper_of cs ps) c) →
      Wrote cs ps cs' ps' (rewritten (paper_of cs ps) c) → Handled cs ps us c cs' ps' us' (answer_bytes (told (desk_of cs ps) c))
  wrote_handled {cs'} {ps'} {us'} t0 w note wrote =
      let p : Paper = paper_of cs ps in
      let a : answer l (desk_of cs ps) c ≡ told (desk_of cs ps) c =
      ap (λ (m : ℕ). pick (eqb m 0) (told (desk_of cs ps) c) (refused m (place c m))) t0 in
      record {
        does = λ d st.
            let t : turned l d c ≡ 0 = turned_here d st ∙ t0 in
            let back : List Entry = kept (get_or ps 2 0) (entry_of p c ∷ st.sound.back) in
            let desk : StandsFor l (rewritten p c) back [] (after l d c) = write_steps l p st.sound.back st.sound.ahead d c st.desk w t in
            record {
              stands =
                  stands_at cs ps us cs' ps' us' (rewritten p c) back [] (after l d c) st.sound wrote note.undo_length
                  (note.records st.sound.back st.sound.ahead st.sound.log) desk;
              limits = wrote.limits;
              says = ap answer_bytes (sym (answer_here d st ∙ a));
              kept = never (turned l d c) ((cs' ≡ cs) × (ps' ≡ ps) × (us' ≡ us)) t;
            };
        beyond = record {
          cells = wrote.cells_beyond;
          pieces = wrote.pieces_beyond;
          undo = note.beyond;
          cells_length = wrote.cells_length;
          pieces_length = wrote.pieces_length;
          undo_length = note.undo_length;
        };
      }

  -- one that only looks
  pub looked_handled : (a : Answer) → 6 < call_number c → Acted cs ps c cs ps a → Handled cs ps us c cs ps us (answer_bytes a)
  looked_handled a late acted =
      record {
        does = λ d st. record {
          stands = record { sound = st.sound; desk = looking_keeps l (paper_of cs ps) st.sound.back st.sound.ahead d c st.desk late };
          limits = refl;
          says = ap answer_bytes (acted.says ∙ sym (answer_here d st));
          kept = λ h. (refl, refl, refl);
        };
        beyond = same_beyond cs ps us;
      }

  -- one that only looks, and is not turned away; what was found of rows is kept
  pub kept_handled : {cs' ps' : List ℕ} (a : Answer) → 6 < call_number c → turned l (desk_of cs ps) c ≡ 0 → Acted cs ps c cs ps a → Wrote cs ps cs' ps' (paper_of cs ps) →
      Handled cs ps us c cs' ps' us (answer_bytes a)
  kept_handled {cs'} {ps'} a late t0 acted wrote =
      record {
        does = λ d st.
            let s = st.sound in
            record {
              stands = stands_at cs ps us cs' ps' us (paper_of cs ps) s.back s.ahead (after l d c) s wrote refl s.log (looking_keeps l (paper_of cs ps) s.back s.ahead d c st.desk late);
              limits = wrote.limits;
              says = ap answer_bytes (acted.says ∙ sym (answer_here d st));
              kept = never (turned l d c) ((cs' ≡ cs) × (ps' ≡ ps) × (us ≡ us)) (turned_here d st ∙ t0);
            };
        beyond = record {
          cells = wrote.cells_beyond;
          pieces = wrote.pieces_beyond;
          undo = refl;
          cells_length = wrote.cells_length;
          pieces_length = wrote.pieces_length;
          undo_length = refl;
        };
      }

-- the desk that sound memory holds
pub held_desk : (cs ps us : List ℕ) (s : Sound cs ps us) → Stands cs ps us (desk_for (paper_of cs ps) s.back s.ahead)
held_desk cs ps us s = record { sound = s; desk = record { now = refl; past = refl; future = refl; sane = s.sane } }

pub called : (cs ps us bs cs' ps' us' rs : List ℕ) (c : Call) → reading bs ≡ call_is c → Sound cs ps us → Handled cs ps us c cs' ps' us' rs → Fit cs' ps' us' →
    Called cs ps us bs cs' ps' us' rs
called cs ps us bs cs' ps' us' rs c reads sound handled fit =
    let d : Desk = desk_for (paper_of cs ps) sound.back sound.ahead in
    let done : Done cs ps us d c cs' ps' us' rs = handled.does d (held_desk cs ps us sound) in
    record {
      does = subst (λ (r : Reading). Does r cs ps us cs' ps' us' rs) (sym reads) handled.does;
      sound = done.stands.sound;
      limits = done.limits;
      beyond = handled.beyond;
      fit = fit;
    }

-- bytes that are no call
pub not_called : (cs ps us bs rs : List ℕ) (i : ℕ) → reading bs ≡ ceases i → Sound cs ps us → rs ≡ answer_bytes (refused 1 (min i 4294967295)) → Fit cs ps us → Called cs ps us bs cs ps us rs
not_called cs ps us bs rs i reads sound is fit =
    record {
      does = subst (λ (r : Reading). Does r cs ps us cs ps us rs) (sym reads) (refl, refl, refl, is);
      sound = sound;
      limits = refl;
      beyond = record { cells = refl; pieces = refl; undo = refl; cells_length = refl; pieces_length = refl; undo_length = refl };
      fit = fit;
    }

-- what call promises of the r bytes of its answer
pub record Answered (cs ps us bs cs' ps' us' out out' : List ℕ) (r : ℕ) : Type 0 where
  pub called : Called cs ps us bs cs' ps' us' (take r out')
  pub within : r ≤ length out
  pub rest : drop r out' ≡ drop r out

answered : {cs ps us bs cs' ps' us' out out' : List ℕ} {r : ℕ} (c : Call) → reading bs ≡ call_is c → Sound cs ps us → Said cs ps us c cs' ps' us' out out' r →
    Fit cs' ps' us' → Answered cs ps us bs cs' ps' us' out out' r
answered {cs} {ps} {us} {bs} {cs'} {ps'} {us'} {out} {out'} {r} c reads sound s fit =
    record { called = called cs ps us bs cs' ps' us' (take r out') c reads sound s.handled fit; within = s.within; rest = s.rest }

-- the answer was written
pub answered_well : {cs ps us bs cs' ps' us' out out' : List ℕ} {r : ℕ} (rd : Reading) → reading bs ≡ rd → Sound cs ps us →
    Tried cs ps us rd cs' ps' us' out out' (Ok r) → Fit cs' ps' us' → Answered cs ps us bs cs' ps' us' out out' r
answered_well (call_is c) reads sound s fit = answered c reads sound s fit
answered_well {r = r} (ceases i) reads sound t fit = let e : Ok r ≡ Err (NotACall i) = t.0 in cc

-- the refusal e is written
pub answered_no : {cs ps us bs cs' ps' us' out out' : List ℕ} {r : ℕ} (mid : List ℕ) (e : Refusal) (rd : Reading) → reading bs ≡ rd → Sound cs ps us →
    Tried cs ps us rd cs' ps' us' out mid (Err e) → out' ≡ answer_bytes (refusal_told e) ++ drop r mid → r ≡ length (answer_bytes (refusal_told e)) →
    length out' ≡ length mid → Fit cs' ps' us' → Answered cs ps us bs cs' ps' us' out out' r
answered_no {cs} {ps} {us} {bs} {cs'} {ps'} {us'} {out} {out'} {r} mid e (call_is c) reads sound t bytes long n fit =
    let same : mid ≡ out = t.1 in
    answered c reads sound (said (answer_bytes (refusal_told e)) t.0 (rw same at bytes) long (rw same at n)) fit
answered_no {cs} {ps} {us} {bs} {cs'} {ps'} {us'} {out} {out'} {r} mid e (ceases i) reads sound t bytes long n fit =
    let which : e ≡ NotACall i = cc (t.0) in
    let ws : List ℕ = answer_bytes (refused 1 (min i 4294967295)) in
    let same : mid ≡ out = t.4 in
    let b : out' ≡ ws ++ drop r out = rw (which, same) at bytes in
    let l : r ≡ length ws = rw which at long in
    let parts : (take r out' ≡ ws) × (drop r out' ≡ drop r out) = first_bytes ws out out' r b l in
    let fit' : Fit cs ps us = rw (t.1, t.2, t.3) at fit in
    record {
      called = rw (t.1, t.2, t.3) (not_called cs ps us bs (take r out') i reads sound parts.0 fit');
      within = first_within ws out out' r b l (rw same at n);
      rest = parts.1;
    }

-- the memory is the same under other names
pub renamed : (cs ps us : List ℕ) (c : Call) (cs' ps' us' ds qs vs out out' : List ℕ) (r : Result ℕ Refusal) → Ended cs ps us c cs' ps' us' out out' r →
    ds ≡ cs' → qs ≡ ps' → vs ≡ us' → Ended cs ps us c ds qs vs out out' r
renamed cs ps us c cs' ps' us' ds qs vs out out' r e here there log =
    subst (λ (xs : List ℕ). Ended cs ps us c xs qs vs out out' r) (sym here)
    (subst (λ (xs : List ℕ). Ended cs ps us c cs' xs vs out out' r) (sym there) (subst (λ (xs : List ℕ). Ended cs ps us c cs' ps' xs out out' r) (sym log) e))
