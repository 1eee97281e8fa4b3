-- A call that is turned away, one that writes and one that only looks, at the desk that memory holds. Assumes nothing.
use Rattle.std.proofs.Common.{◌≡◌, ℕ, suc, Bool, true, false, eqb, List, sym, refl, ap, ◌∙◌, subst, arith, ne_eqb}
use Rattle.model.specs.Paper.{pick, Paper}
use Rattle.model.specs.Calls.{Call, refused, Desk, Limits, good_call, turned_by, writes, rewritten, moved, changed, fits, turned, after, told, place, answer}
use Rattle.session.specs.Memory.{limits_of, paper_of, Held}
use Rattle.session.specs.Acts.{Wrote, desk_of, Acted}

pub apart : (n : ℕ) → eqb (suc n) 0 ≡ false
apart n = ne_eqb (suc n) 0 (omega arith)

-- why a call is turned away
pub turned_range : (l : Limits) (d : Desk) (c : Call) → good_call l c ≡ false → turned l d c ≡ 2
turned_range l d c g = rw g refl

pub turned_first : (l : Limits) (d : Desk) (c : Call) (n : ℕ) → good_call l c ≡ true → turned_by d c ≡ suc n → turned l d c ≡ suc n
turned_first l d c n g t = rw (g, t, apart n) refl

pub turned_last : (l : Limits) (d : Desk) (c : Call) → good_call l c ≡ true → turned_by d c ≡ 0 → fits l (rewritten d.now c) ≡ false → turned l d c ≡ 9
turned_last l d c g t f = rw (g, t, f) refl

pub turned_not : (l : Limits) (d : Desk) (c : Call) → good_call l c ≡ true → turned_by d c ≡ 0 → fits l (rewritten d.now c) ≡ true → turned l d c ≡ 0
turned_not l d c g t f = rw (g, t, f) refl

-- memory as it was
pub unwritten : (cs ps : List ℕ) → Held cs ps → Wrote cs ps cs ps (paper_of cs ps)
unwritten cs ps held =
    record { held = held; limits = refl; paper = refl; cells_beyond = refl; pieces_beyond = refl; cells_length = refl; pieces_length = refl }

pub refuses : (cs ps : List ℕ) (c : Call) (n : ℕ) → Held cs ps → turned (limits_of ps) (desk_of cs ps) c ≡ suc n →
    Acted cs ps c cs ps (refused (suc n) (place c (suc n)))
refuses cs ps c n held t =
    let l : Limits = limits_of ps in
    let d : Desk = desk_of cs ps in
    let same : after l d c ≡ d =
    ap (λ (m : ℕ). pick (eqb m 0) (changed l d c) d) t ∙ ap (λ (b : Bool). pick b (changed l d c) d) (apart n) in
    let says : answer l d c ≡ refused (suc n) (place c (suc n)) =
    ap (λ (m : ℕ). pick (eqb m 0) (told d c) (refused m (place c m))) t ∙ ap (λ (b : Bool). pick b (told d c) (refused (suc n) (place c (suc n)))) (apart n) in
    record {
      wrote = subst (λ (e : Desk). Wrote cs ps cs ps e.now) (sym same) (unwritten cs ps held);
      says = sym says;
      kept = λ h. (refl, refl);
    }

pub looked : (cs ps : List ℕ) (c : Call) → Held cs ps → turned (limits_of ps) (desk_of cs ps) c ≡ 0 → writes c ≡ false →
    moved (limits_of ps) (desk_of cs ps) c ≡ desk_of cs ps → Acted cs ps c cs ps (told (desk_of cs ps) c)
looked cs ps c held t w m =
    let l : Limits = limits_of ps in
    let d : Desk = desk_of cs ps in
    let paper : (after l d c).now ≡ paper_of cs ps = rw (t, w, m) refl in
    let says : answer l d c ≡ told d c = ap (λ (m : ℕ). pick (eqb m 0) (told d c) (refused m (place c m))) t in
    record {
      wrote = subst (λ (p : Paper). Wrote cs ps cs ps p) (sym paper) (unwritten cs ps held);
      says = sym says;
      kept = λ h. (refl, refl);
    }
