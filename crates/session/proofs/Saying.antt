-- Answers in lent bytes. Assumes nothing.
use Rattle.std.proofs.Common.{◌≡◌, ℕ, ◌+◌, ◌≤◌, List, ◌++◌, length, take, drop, sym, refl, ap, ◌∙◌, subst, arith}
use Rattle.std.proofs.lemmas.List.{length-append, take_at, drop_at}
use Rattle.model.specs.Calls.{Call, put, strikes, accepts, rejects, styles, undo, redo, show, find, count, change, save, place}
use Rattle.session.specs.Contract.{Handled}
use Rattle.session.specs.Desks.{Said}

-- what stands in the first bytes, and after them
pub first_bytes : (bs out out' : List ℕ) (r : ℕ) → out' ≡ bs ++ drop r out → r ≡ length bs → (take r out' ≡ bs) × (drop r out' ≡ drop r out)
first_bytes bs out out' r e l = (ap (take r) e ∙ take_at bs (drop r out) r (sym l), ap (drop r) e ∙ drop_at bs (drop r out) r (sym l))

pub first_within : (bs out out' : List ℕ) (r : ℕ) → out' ≡ bs ++ drop r out → r ≡ length bs → length out' ≡ length out → r ≤ length out
first_within bs out out' r e l k = let n : length out' ≡ length bs + length (drop r out) = ap length e ∙ length-append bs (drop r out) in omega arith

-- refusal 2 points to no field
pub nowhere : (c : Call) → place c 2 ≡ 0
unfolding place
nowhere (put a i s ls) = refl
nowhere (strikes a i n) = refl
nowhere (accepts c) = refl
nowhere (rejects c) = refl
nowhere (styles i n s) = refl
nowhere undo = refl
nowhere redo = refl
nowhere (show k w r n) = refl
nowhere (find k i ls) = refl
nowhere (count k) = refl
nowhere (change c) = refl
nowhere (save i n) = refl

-- the bytes of an answer were written
pub said : {cs ps us cs' ps' us' out out' : List ℕ} {c : Call} {r : ℕ} (bs : List ℕ) → Handled cs ps us c cs' ps' us' bs → out' ≡ bs ++ drop r out → r ≡ length bs →
    length out' ≡ length out → Said cs ps us c cs' ps' us' out out' r
said {cs} {ps} {us} {cs'} {ps'} {us'} {out} {out'} {c} {r} bs handled bytes long n =
    let parts : (take r out' ≡ bs) × (drop r out' ≡ drop r out) = first_bytes bs out out' r bytes long in
    record {
      handled = subst (λ (rs : List ℕ). Handled cs ps us c cs' ps' us' rs) (sym parts.0) handled;
      within = first_within bs out out' r bytes long n;
      rest = parts.1;
    }
