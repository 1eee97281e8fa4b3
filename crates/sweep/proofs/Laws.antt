-- Laws of a sweep.
use Rattle.std.proofs.Common.{◌≡◌, ℕ, zero, suc, ◌+◌, ◌-◌, ◌<◌, ◌≤◌, Bool, true, false, eqb, ◌≢◌, List, [], ◌∷◌, ◌++◌, take, drop, sym, refl, ap, ◌∙◌, arith}
use lib.Dec.{eqb-zero-suc, eqb-suc-zero, eqb-suc-suc}
use Rattle.std.proofs.lemmas.List.{append_assoc, drop-drop, get_or_past}
use Rattle.model.specs.Paper.{pick, Cell, Change, author_of, strike, accept, reject, styled}
use Rattle.changes.specs.Row.{change_at, changes_of}
use Rattle.changes.proofs.Steps.{change_in, length_changes}
use Rattle.sweep.specs.declared.Action.{Action}
use Rattle.sweep.specs.declared.Action.TheVariants.{Strike, Accept, Reject, Style}
use Rattle.sweep.specs.Sweep.{goes, changed, fate, swept, swept_run, OneMeaning}

pub swept_none : (a : Action) (cs : List Change) → swept a cs [] ≡ []
unfolding swept
swept_none a cs = refl

pub swept_append : (a : Action) (cs : List Change) (xs ys : List Cell) → swept a cs (xs ++ ys) ≡ swept a cs xs ++ swept a cs ys
unfolding swept
swept_append a cs [] ys = refl
swept_append a cs (x ∷ xs) ys = ap (λ zs. fate a cs x ++ zs) (swept_append a cs xs ys) ∙ sym (append_assoc (fate a cs x) (swept a cs xs) (swept a cs ys))

-- a cell that goes if the test holds, in front of the others
pick_front : (t : Bool) (x : Cell) (ys : List Cell) → pick t ys (x ∷ ys) ≡ pick t [] (x ∷ []) ++ ys
pick_front true x ys = refl
pick_front false x ys = refl

pub accept_swept : (cs : List Change) (xs : List Cell) (c : ℕ) → accept xs c ≡ swept (Accept c) cs xs
unfolding accept swept
accept_swept cs [] c = refl
accept_swept cs (x ∷ xs) c = rw (accept_swept cs xs c) (pick_front (goes (Accept c) cs x) (changed (Accept c) x) (swept (Accept c) cs xs))

pub reject_swept : (cs : List Change) (xs : List Cell) (c : ℕ) → reject xs c ≡ swept (Reject c) cs xs
unfolding reject swept
reject_swept cs [] c = refl
reject_swept cs (x ∷ xs) c = rw (reject_swept cs xs c) (pick_front (goes (Reject c) cs x) (changed (Reject c) x) (swept (Reject c) cs xs))

-- one cell more at the front
front_more : (a : Action) (cs : List Change) (x : Cell) (xs : List Cell) (n : ℕ)
    → swept a cs (take (suc n) (x ∷ xs)) ++ drop n xs ≡ fate a cs x ++ (swept a cs (take n xs) ++ drop n xs)
unfolding swept
front_more a cs x xs n = append_assoc (fate a cs x) (swept a cs (take n xs)) (drop n xs)

pub strike_swept : (cs : List Change) (xs : List Cell) (n a c : ℕ) → strike xs n cs a c ≡ swept (Strike a (suc c)) cs (take n xs) ++ drop n xs
unfolding strike swept
strike_swept cs [] zero a c = refl
strike_swept cs [] (suc n) a c = refl
strike_swept cs (x ∷ xs) zero a c = refl
strike_swept cs (x ∷ xs) (suc n) a c =
    let act : Action = Strike a (suc c) in
    rw (strike_swept cs xs n a c) (pick_front (goes act cs x) (changed act x) (swept act cs (take n xs) ++ drop n xs) ∙ sym (front_more act cs x xs n))

pub styled_swept : (cs : List Change) (xs : List Cell) (n s : ℕ) → styled xs n s ≡ swept (Style s) cs (take n xs) ++ drop n xs
unfolding styled swept
styled_swept cs [] zero s = refl
styled_swept cs [] (suc n) s = refl
styled_swept cs (x ∷ xs) zero s = refl
styled_swept cs (x ∷ xs) (suc n) s = rw (styled_swept cs xs n s) (sym (front_more (Style s) cs x xs n))

-- from place i on
pub swept_run_at : (a : Action) (cs : List Change) (xs : List Cell) (i n : ℕ) → take i xs ++ (swept a cs (take n (drop i xs)) ++ drop n (drop i xs)) ≡ swept_run a cs xs i n
swept_run_at a cs xs i n = rw drop-drop

pub one_meaning : OneMeaning
one_meaning cs xs = (
  accept_swept cs xs,
  reject_swept cs xs,
  (λ i n a c. ap (λ ys. take i xs ++ ys) (strike_swept cs (drop i xs) n a c) ∙ swept_run_at (Strike a (suc c)) cs xs i n),
  (λ i n s. ap (λ ys. take i xs ++ ys) (styled_swept cs (drop i xs) n s) ∙ swept_run_at (Style s) cs xs i n),
)

-- whether a mark is of a change of author a
pub of_none : (cs : List Change) (m a : ℕ) → m ≡ 0 → false ≡ eqb (author_of cs m) (suc a)
unfolding author_of
of_none cs m a e = rw e (sym (eqb-zero-suc a))

pub of_row : (w : List ℕ) (n m a b : ℕ) → m ≢ 0 → m - 1 < n → b ≡ (change_at w (m - 1)).author → eqb b a ≡ eqb (author_of (changes_of w n) m) (suc a)
unfolding author_of
of_row w n zero a b h l e = absurd (h refl)
of_row w n (suc m) a b h l e =
    let i : suc m - 1 ≡ 0 + m = omega arith in
    let g = change_in w 0 n m (record { author = 0; became = 0 }) (omega arith) in
    let j = eqb-suc-suc b a in
    let at = ap (change_at w) i in
    cc

zero_last : (a : ℕ) → eqb a 0 ≡ eqb 0 a
zero_last zero = refl
zero_last (suc a) = eqb-suc-zero a ∙ sym (eqb-zero-suc a)

pub of_past : (w : List ℕ) (n m a : ℕ) → m ≢ 0 → n ≤ m - 1 → eqb a 0 ≡ eqb (author_of (changes_of w n) m) (suc a)
unfolding author_of
of_past w n zero a h l = absurd (h refl)
of_past w n (suc m) a h l =
    let len = length_changes w 0 n in
    let g = get_or_past (changes_of w n) m (record { author = 0; became = 0 }) (omega arith) in
    let j = eqb-suc-suc 0 a in
    let k = zero_last a in
    cc
