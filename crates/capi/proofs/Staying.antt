-- Memory stays such as desk_call asks for. Assumes nothing.
use Rattle.std.proofs.Common.{◌≡◌, ℕ, Bool, true, false, List, ℤ, pos, Ok, Err, Result, ap, ◌∙◌, arith}
use Rattle.model.specs.Paper.{pick}
use Rattle.session.specs.Memory.{Sound}
use Rattle.session.specs.Contract.{Opening, good_limits}
use Rattle.session.specs.declared.refusal.Refusal.{Refusal}
use Rattle.session.specs.declared.refusal.Refusal.TheVariants.{LimitsOutOfRange, TooLittleMemory}
use Rattle.std.proofs.lemmas.Int.{ints}
use Rattle.capi.specs.Interface.{CallReturns, Callable, StaysCallable, open_told}

not_opened : {P : Type 0} (b : Bool) → pos 0 ≡ open_told (Err (pick b TooLittleMemory LimitsOutOfRange)) → P
not_opened true e = absurd (omega (arith, ints))
not_opened false e = absurd (omega (arith, ints))

opened : (end : Result (Unit {0}) Refusal) (n c u : ℕ) (cs ps us cs' ps' us' : List ℕ) → pos 0 ≡ open_told end → Opening end n c u cs ps us cs' ps' us' → Sound cs' ps' us'
opened (Ok _) n c u cs ps us cs' ps' us' e o = o.1.stands.sound
opened (Err x) n c u cs ps us cs' ps' us' e o = not_opened (good_limits n c u) (e ∙ ap (λ (r : Refusal). open_told (Err r)) o.1)

called : (b : Bool) (r : ℤ) (cs ps us bs out cs' ps' us' out' : List ℕ) → Callable cs ps us → CallReturns b r cs ps us bs out cs' ps' us' out' → Callable cs' ps' us'
called true r cs ps us bs out cs' ps' us' out' s a h = a.called.sound
called false r cs ps us bs out cs' ps' us' out' s a h = rw (a.1, a.2, a.3) (s (rw (a.1, a.2, a.3) at h))

pub stays : StaysCallable
stays = (λ n c u cs ps us cs' ps' us' o h. opened o.end n c u cs ps us cs' ps' us' o.tells o.opening, called)
