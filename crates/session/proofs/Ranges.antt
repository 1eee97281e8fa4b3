-- Letters and numbers in range. Assumes nothing.
use Rattle.std.proofs.Common.{◌≡◌, ℕ, ◌<◌, Bool, true, false, ◌&&◌, ◌||◌, eqb, leb, List, [], ◌∷◌, sym, refl, ap, ◌∙◌, ltb-true}
use Rattle.std.specs.List.{list_all}
use Rattle.model.specs.Calls.{call_number, count, good_call, good_fields, good_letters}
use Rattle.model.specs.Values.{way_number}
use Rattle.model.specs.declared.way.Way.{Way}
use Rattle.model.specs.declared.way.Way.TheVariants.{Everything, Accepted, Rejected}
use Rattle.codec.specs.Values.{meaning}
use Rattle.codec.specs.declared.Call.{Call}
use Rattle.codec.specs.declared.Call.TheVariants.{Put, Strike, Accept, Reject, Style, Undo, Redo, Show, Find, Count, Change, Save}
use Rattle.session.specs.Memory.{stage, limits_of}
use Rattle.session.specs.Range.{in_range, is_long}

abbrev pub good : ℕ → Bool
good l = eqb l 10 || (leb 32 l && leb l 126)

-- whether each letter is good, as `all` finds it
pub all_letters : (ls : List ℕ) → list_all good ls ≡ good_letters ls
unfolding good_letters
all_letters [] = refl
all_letters (l ∷ ls) = ap (λ (b : Bool). good l && b) (all_letters ls)

-- the code's cases and the model's agree
pub in_range_is : (c : Call) (ls : List ℕ) → in_range c ls ≡ good_fields (meaning c ls)
unfolding good_fields
in_range_is (Put a i s) ls = refl
in_range_is (Strike a i n) ls = refl
in_range_is (Accept c) ls = refl
in_range_is (Reject c) ls = refl
in_range_is (Style i n s) ls = refl
in_range_is Undo ls = refl
in_range_is Redo ls = refl
in_range_is (Show k w r n) ls = refl
in_range_is (Find k i) ls = refl
in_range_is (Count k) ls = refl
in_range_is (Change c) ls = refl
in_range_is (Save i n) ls = refl

-- tests that hold together
pub both_true : (a b : Bool) → (a && b) ≡ true → (a ≡ true) × (b ≡ true)
both_true true b h = (refl, h)
both_true false b h = let z : ◌≡◌ {A = Bool} false true = h in (z, cc)

and_false : (b : Bool) → (b && false) ≡ false
and_false true = refl
and_false false = refl

-- what the code tests is what refusal 2 is about
pub out_is_bad : (ps : List ℕ) (c : Call) (ls : List ℕ) → in_range c ls ≡ false → good_call (limits_of ps) (meaning c ls) ≡ false
out_is_bad ps c ls h = ap (λ (b : Bool). stage (call_number (meaning c ls)) && b) (sym (in_range_is c ls) ∙ h) ∙ and_false (stage (call_number (meaning c ls)))

pub not_long : (c : Call) → ((k w r n : ℕ) → c ≡ Show k w r n → ⊥) → ((i n : ℕ) → c ≡ Save i n → ⊥) → is_long c ≡ false
not_long (Put a i s) h g = refl
not_long (Strike a i n) h g = refl
not_long (Accept c) h g = refl
not_long (Reject c) h g = refl
not_long (Style i n s) h g = refl
not_long Undo h g = refl
not_long Redo h g = refl
not_long (Show k w r n) h g = absurd (h k w r n refl)
not_long (Find k i) h g = refl
not_long (Count k) h g = refl
not_long (Change c) h g = refl
not_long (Save i n) h g = absurd (g i n refl)

-- every way to look can be asked for
pub way_good : (w : Way) → good_fields (count (way_number w)) ≡ true
unfolding good_fields
way_good Everything = refl
way_good Accepted = refl
way_good Rejected = refl

pub count_range : (k : ℕ) → good_fields (count k) ≡ true → k < 3
unfolding good_fields
count_range k good = ltb-true k 3 good
