-- What a pick gives where its test is known.
use Rattle.std.proofs.Common.{◌≡◌, Bool, true, false}
use Rattle.model.specs.Paper.{pick}

pub pick_true : {A : Type 0} (t : Bool) (a b : A) → t ≡ true → pick t a b ≡ a
pick_true t a b e = rw e

pub pick_false : {A : Type 0} (t : Bool) (a b : A) → t ≡ false → pick t a b ≡ b
pick_false t a b e = rw e

-- what holds of both holds of the one that is picked
pub pick_both : {A : Type 0} (P : A → Type 0) (t : Bool) (a b : A) → P a → P b → P (pick t a b)
pick_both P true a b p q = p
pick_both P false a b p q = q
