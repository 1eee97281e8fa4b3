-- What writes to the head of the pieces, before the tables, leave. Assumes nothing.
use Rattle.std.proofs.Common.{◌≡◌, ℕ, ◌+◌, ◌-◌, ◌*◌, ◌<◌, ◌≤◌, ◌≢◌, List, [], ◌∷◌, ◌++◌, length, get_or, take, drop, set, sym, ap, ◌∙◌, arith, get_or-set_other, get_or-set_same}
use borrow.Rule.Slice.PartMut.{put_mid}
use Rattle.std.proofs.lemmas.List.{length-append, length-take-le, length-drop, length-set, drop_at, drop_all, drop-drop, drop-set-lt, append-nil, get_or_append_left, get_or-take}
use Rattle.model.specs.Calls.{with_became}
use Rattle.changes.specs.Row.{changes_of}
use Rattle.session.specs.Memory.{limits_of, tables}
use Rattle.session.specs.Acts.{Rowed, row_of}

-- what was lent from place a on, to the end
pub lent : (a : ℕ) (xs ys : List ℕ) → a ≤ length xs → put_mid a (length xs - a) xs ys ≡ take a xs ++ ys
lent a xs ys h =
    let l : length (drop a xs) ≡ length xs - a = length-drop a xs in
    let none : drop (length xs - a) (drop a xs) ≡ [] = drop_all (length xs - a) (drop a xs) (omega arith) in
    let e : ys ++ drop (length xs - a) (drop a xs) ≡ ys = ap (λ (zs : List ℕ). ys ++ zs) none ∙ append-nil ys in
    ap (λ (zs : List ℕ). take a xs ++ zs) e

pub lent_before : (a : ℕ) (xs ys : List ℕ) (i : ℕ) → a ≤ length xs → i < a → get_or (take a xs ++ ys) i 0 ≡ get_or xs i 0
lent_before a xs ys i h l =
    let n : length (take a xs) ≡ a = length-take-le a xs h in
    get_or_append_left (take a xs) ys 0 i (omega arith) ∙ get_or-take a xs i 0 l

pub lent_after : (a : ℕ) (xs ys : List ℕ) → a ≤ length xs → drop a (take a xs ++ ys) ≡ ys
lent_after a xs ys h = drop_at (take a xs) ys a (length-take-le a xs h)

-- the words from 16 on were lent, and those past the row came back as they were
pub relent : (ps w : List ℕ) → 16 + 2 * get_or ps 1 0 ≤ length ps → length w ≡ length ps - 16 → drop (2 * get_or ps 1 0) w ≡ drop (2 * get_or ps 1 0) (drop 16 ps) →
    let q : List ℕ = put_mid 16 (length ps - 16) ps w in
    ((i : ℕ) → i < 16 → get_or q i 0 ≡ get_or ps i 0) × (drop 16 q ≡ w) × (drop (16 + 2 * get_or ps 1 0) q ≡ drop (16 + 2 * get_or ps 1 0) ps) × (length q ≡ length ps)
relent ps w long lw rest =
    let c : ℕ = get_or ps 1 0 in
    let q : List ℕ = put_mid 16 (length ps - 16) ps w in
    let start : 16 ≤ length ps = omega arith in
    let m : q ≡ take 16 ps ++ w = lent 16 ps w start in
    let lt : length (take 16 ps) ≡ 16 = length-take-le 16 ps start in
    let d : drop 16 q ≡ w = ap (drop 16) m ∙ lent_after 16 ps w start in (
      (λ i h. ap (λ (xs : List ℕ). get_or xs i 0) m ∙ lent_before 16 ps w i start h),
      d,
      sym (drop-drop (2 * c) 16 q) ∙ (ap (drop (2 * c)) d ∙ (rest ∙ drop-drop (2 * c) 16 ps)),
      ap length m ∙ (length-append (take 16 ps) w ∙ omega arith),
    )

pub noted : (ps w : List ℕ) (a : ℕ) → let n : ℕ = get_or ps 3 0 in n < get_or ps 1 0 → 16 + 2 * get_or ps 1 0 ≤ length ps → w ≡ set (set (drop 16 ps) (2 * n) a) (2 * n + 1) 0 →
    changes_of w (n + 1) ≡ row_of ps ++ (record { author = a; became = 0 } ∷ []) →
    Rowed ps (set (put_mid 16 (length ps - 16) ps w) 3 (n + 1)) (row_of ps ++ (record { author = a; became = 0 } ∷ []))
noted ps w a less long is row =
    let n : ℕ = get_or ps 3 0 in
    let c : ℕ = get_or ps 1 0 in
    let mid : List ℕ = put_mid 16 (length ps - 16) ps w in
    let q : List ℕ = set mid 3 (n + 1) in
    let lw : length w ≡ length ps - 16 =
    ap length is ∙ (length-set (set (drop 16 ps) (2 * n) a) (2 * n + 1) 0 ∙ (length-set (drop 16 ps) (2 * n) a ∙ length-drop 16 ps)) in
    let rest : drop (2 * c) w ≡ drop (2 * c) (drop 16 ps) =
    ap (drop (2 * c)) is ∙ (drop-set-lt (2 * c) (set (drop 16 ps) (2 * n) a) (2 * n + 1) 0 (omega arith) ∙ drop-set-lt (2 * c) (drop 16 ps) (2 * n) a (omega arith)) in
    let facts : ((i : ℕ) → i < 16 → get_or mid i 0 ≡ get_or ps i 0) × (drop 16 mid ≡ w) × (drop (16 + 2 * c) mid ≡ drop (16 + 2 * c) ps) × (length mid ≡ length ps) = relent ps w long lw rest in
    let same : (i : ℕ) → i < 3 → get_or q i 0 ≡ get_or ps i 0 = λ i h. let ne : i ≢ 3 = omega arith in get_or-set_other mid 3 i (n + 1) 0 ne ∙ facts.0 i (omega arith) in
    let g0 : get_or q 0 0 ≡ get_or ps 0 0 = same 0 (omega arith) in
    let g1 : get_or q 1 0 ≡ c = same 1 (omega arith) in
    let g2 : get_or q 2 0 ≡ get_or ps 2 0 = same 2 (omega arith) in
    let g3 : get_or q 3 0 ≡ n + 1 = get_or-set_same mid 3 (n + 1) 0 (omega (arith, facts.3)) in
    let d : drop 16 q ≡ w = drop-set-lt 16 mid 3 (n + 1) (omega arith) ∙ facts.1 in
    let t : tables q ≡ tables ps = ap (λ (k : ℕ). drop (16 + 2 * k) q) g1 ∙ (drop-set-lt (16 + 2 * c) mid 3 (n + 1) (omega arith) ∙ facts.2) in
    let limits : limits_of q ≡ limits_of ps = cc in
    let rows : changes_of (drop 16 q) (get_or q 3 0) ≡ row_of ps ++ (record { author = a; became = 0 } ∷ []) =
    ap (λ (k : ℕ). changes_of (drop 16 q) k) g3 ∙ (ap (λ (xs : List ℕ). changes_of xs (n + 1)) d ∙ row) in
    record { limits = limits; tables = t; changes = rows; fits = omega arith; words = length-set mid 3 (n + 1) ∙ facts.3 }

pub judged : (ps w : List ℕ) (k b : ℕ) → let n : ℕ = get_or ps 3 0 in k < n → n ≤ get_or ps 1 0 → 16 + 2 * get_or ps 1 0 ≤ length ps → w ≡ set (drop 16 ps) (2 * k + 1) b →
    changes_of w n ≡ with_became (row_of ps) k b → Rowed ps (put_mid 16 (length ps - 16) ps w) (with_became (row_of ps) k b)
judged ps w k b there few long is row =
    let n : ℕ = get_or ps 3 0 in
    let c : ℕ = get_or ps 1 0 in
    let q : List ℕ = put_mid 16 (length ps - 16) ps w in
    let lw : length w ≡ length ps - 16 = ap length is ∙ (length-set (drop 16 ps) (2 * k + 1) b ∙ length-drop 16 ps) in
    let rest : drop (2 * c) w ≡ drop (2 * c) (drop 16 ps) = ap (drop (2 * c)) is ∙ drop-set-lt (2 * c) (drop 16 ps) (2 * k + 1) b (omega arith) in
    let facts : ((i : ℕ) → i < 16 → get_or q i 0 ≡ get_or ps i 0) × (drop 16 q ≡ w) × (drop (16 + 2 * c) q ≡ drop (16 + 2 * c) ps) × (length q ≡ length ps) = relent ps w long lw rest in
    let g0 : get_or q 0 0 ≡ get_or ps 0 0 = facts.0 0 (omega arith) in
    let g1 : get_or q 1 0 ≡ c = facts.0 1 (omega arith) in
    let g2 : get_or q 2 0 ≡ get_or ps 2 0 = facts.0 2 (omega arith) in
    let g3 : get_or q 3 0 ≡ n = facts.0 3 (omega arith) in
    let t : tables q ≡ tables ps = ap (λ (m : ℕ). drop (16 + 2 * m) q) g1 ∙ facts.2 in
    let limits : limits_of q ≡ limits_of ps = cc in
    let rows : changes_of (drop 16 q) (get_or q 3 0) ≡ with_became (row_of ps) k b =
    ap (λ (m : ℕ). changes_of (drop 16 q) m) g3 ∙ (ap (λ (xs : List ℕ). changes_of xs n) facts.1 ∙ row) in
    record { limits = limits; tables = t; changes = rows; fits = omega arith; words = facts.3 }
