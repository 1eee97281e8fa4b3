-- One step back brings the paper back, one step forward again brings the undone one back; a call that is turned away leaves the desk.
use Rattle.std.proofs.Common.{◌≡◌, ℕ, suc, ◌-◌, ◌<◌, true, eqb, List, [], ◌∷◌, length, refl, ap, ◌∙◌, subst, arith}
use Rattle.std.proofs.lemmas.Bool.{eq-eqb, ne_eqb, and_from}
use Rattle.model.specs.Paper.{pick}
use Rattle.model.specs.Calls.{Call, undo, redo, Desk, Before, Limits, call_number, good_fields, good_call, writes, rewritten, how_much, remembered, undone, redone, moved, changed, fits, turned_by, turned, after, refused, told, place, answers}
use Rattle.model.specs.Promise.{Undone, TurnedAway}
use Rattle.model.specs.Faults.{NothingToRedo}
use Rattle.model.proofs.Picks.{pick_true, pick_false}

-- a call is not turned away if it is good, there is nothing against it, and the paper after it fits
free : (l : Limits) (d : Desk) (c : Call) → good_call l c ≡ true → turned_by d c ≡ 0 → fits l (rewritten d.now c) ≡ true → turned l d c ≡ 0
free l d c g b f = pick_true _ _ _ g ∙ (pick_true _ _ _ (eq-eqb (turned_by d c) 0 b) ∙ pick_true _ _ _ f)

-- the paper after a call that is not turned away fits
pub fits_after : (l : Limits) (d : Desk) (c : Call) → turned l d c ≡ 0 → fits l (rewritten d.now c) ≡ true
fits_after l d c e = grind arith

done : (l : Limits) (d : Desk) (c : Call) → turned l d c ≡ 0 → after l d c ≡ changed l d c
done l d c e = pick_true _ _ _ (eq-eqb (turned l d c) 0 e)

one_back : (l : Limits) (d : Desk) (b : Before) (bs : List Before) → l.calls_can 5 ≡ true → fits l d.now ≡ true → d.past ≡ b ∷ bs → after l d undo ≡ undone d (b ∷ bs)
unfolding call_number good_fields turned_by rewritten writes moved
one_back l d b bs can f e =
    done l d undo (free l d undo (and_from _ _ can refl) (pick_false _ _ _ (ne_eqb (length d.past) 0 (let n = ap length e in omega arith))) f) ∙ ap (undone d) e

one_forward : (l : Limits) (d : Desk) (b : Before) (bs : List Before) → l.calls_can 6 ≡ true → fits l d.now ≡ true → d.future ≡ b ∷ bs → after l d redo ≡ redone d (b ∷ bs)
unfolding call_number good_fields turned_by rewritten writes moved
one_forward l d b bs can f e =
    done l d redo (free l d redo (and_from _ _ can refl) (pick_false _ _ _ (ne_eqb (length d.future) 0 (let n = ap length e in omega arith))) f) ∙ ap (redone d) e

-- what is remembered begins with the latest, if anything is
latest : (u : ℕ) (b : Before) (bs : List Before) → 0 < length (remembered u (b ∷ bs)) → remembered u (b ∷ bs) ≡ b ∷ remembered (u - suc b.much) bs
unfolding remembered
latest u b bs h = grind arith

-- one step back and one forward, from a desk that remembers b
back_forward : (l : Limits) (d : Desk) (b : Before) (bs : List Before) → l.calls_can 5 ≡ true → l.calls_can 6 ≡ true → fits l d.now ≡ true → fits l b.paper ≡ true →
    d.past ≡ b ∷ bs → ((after l d undo).now ≡ b.paper) × ((after l (after l d undo) redo).now ≡ d.now)
unfolding undone redone
back_forward l d b bs can₅ can₆ f g e =
    let u : after l d undo ≡ undone d (b ∷ bs) = one_back l d b bs can₅ f e in
    let r = one_forward l (undone d (b ∷ bs)) (record { paper = d.now; much = b.much }) d.future can₆ g refl in
    (ap (λ (v : Desk). v.now) u, ap (λ (v : Desk). (after l v redo).now) u ∙ ap (λ (v : Desk). v.now) r)

-- the desk after a call that writes: the paper, what can be undone, what can be done again
module _ (l : Limits) (d : Desk) (c : Call) (w : writes c ≡ true) (e : turned l d c ≡ 0) where
  wrote_now : (after l d c).now ≡ rewritten d.now c
  wrote_now = ap (λ (v : Desk). v.now) (done l d c e ∙ pick_true (writes c) _ _ w)

  wrote_past : (after l d c).past ≡ remembered l.undos (record { paper = d.now; much = how_much d.now c } ∷ d.past)
  wrote_past = ap (λ (v : Desk). v.past) (done l d c e ∙ pick_true (writes c) _ _ w)

  wrote_future : (after l d c).future ≡ []
  wrote_future = ap (λ (v : Desk). v.future) (done l d c e ∙ pick_true (writes c) _ _ w)

pub undone_redone : Undone
unfolding Undone
undone_redone l d c w f e h can₅ can₆ =
    let past = wrote_past l d c w e in
    let b : Before = record { paper = d.now; much = how_much d.now c } in
    let first = latest l.undos b d.past (subst (λ (v : List Before). 0 < length v) past h) in
    back_forward l (after l d c) b _ can₅ can₆ (ap (fits l) (wrote_now l d c w e) ∙ fits_after l d c e) f (past ∙ first)

pub nothing_to_redo : NothingToRedo
unfolding NothingToRedo call_number good_fields turned_by place
nothing_to_redo l d c w e can =
    let b : Desk = after l d c in
    let by : turned_by b redo ≡ 7 = pick_true _ _ _ (eq-eqb (length b.future) 0 (ap length (wrote_future l d c w e))) in
    let t : turned l b redo ≡ 7 = pick_true _ _ _ (and_from _ _ can refl) ∙ (pick_false _ _ _ (ne_eqb (turned_by b redo) 0 (omega arith)) ∙ by) in
    ap (λ v. pick (eqb v 0) (told b redo) (refused v (place redo v))) t

pub turned_away : TurnedAway
unfolding TurnedAway
turned_away l d c cs h = ap (λ (v : Desk). answers l v cs) (pick_false _ _ _ (ne_eqb (turned l d c) 0 (omega arith)))
