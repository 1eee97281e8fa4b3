-- How many cells are seen: piece by piece, and as the counts of the trees.
use Rattle.std.proofs.Common.{◌≡◌, ℕ, zero, suc, ◌+◌, ◌-◌, ◌<◌, ◌≤◌, Bool, true, false, not, cond, List, [], ◌∷◌, ◌++◌, length, get_or, take, drop, refl, sym, ap, ◌∙◌, inl, inr, add-zero, arith}
use mir.Val.{bool_byte}
use Rattle.std.specs.List.{filter}
use Rattle.std.proofs.lemmas.List.{length-append, get_or-drop, take-append-drop, drop-drop}
use Rattle.std.proofs.lemmas.List.Filters.{length-filter_both}
use Rattle.std.proofs.lemmas.Bool.{cases_lt}
use Rattle.model.specs.Paper.{pick, Cell, seen, view}
use Rattle.model.specs.Values.{way_number}
use Rattle.model.specs.declared.way.Way.{Way}
use Rattle.model.specs.declared.way.Way.TheVariants.{Everything, Accepted, Rejected}
use Rattle.tree.specs.Tree.{Found, Sums, total}
use Rattle.tree.proofs.Total.{total_none, total_more}
use Rattle.tree.proofs.Node.{root_total}
use Rattle.pieces.specs.Store.{piece, strung}
use Rattle.pieces.specs.Edits.{replaced}
use Rattle.pieces.proofs.Strung.{strung_zero, strung_more}
use Rattle.pieces.proofs.Texts.{length_piece}
use Rattle.kept.specs.Kept.{leaf, tree_at, Kept}
use Rattle.kept.specs.Text.{FoundSeen}
use Rattle.kept.proofs.Whole.{trees_of, tallied_of}

front : (t : Bool) (x : Cell) (xs ys : List Cell) → pick t (x ∷ (xs ++ ys)) (xs ++ ys) ≡ pick t (x ∷ xs) xs ++ ys
front true x xs ys = refl
front false x xs ys = refl

pub view_append : (w : ℕ) (xs ys : List Cell) → view w (xs ++ ys) ≡ view w xs ++ view w ys
unfolding view
view_append w [] ys = refl
view_append w (x ∷ xs) ys = ap (λ zs. pick (seen w x) (x ∷ zs) zs) (view_append w xs ys) ∙ front (seen w x) x (view w xs) (view w ys)

pick_cond : (t : Bool) (xs ys : List Cell) → pick t xs ys ≡ cond t xs ys
pick_cond true xs ys = refl
pick_cond false xs ys = refl

-- as the cells that pass the test
pub view_filter : (w : ℕ) (xs : List Cell) → view w xs ≡ filter (seen w) xs
unfolding view
view_filter w [] = refl
view_filter w (x ∷ xs) = ap (λ zs. pick (seen w x) (x ∷ zs) zs) (view_filter w xs) ∙ pick_cond (seen w x) (x ∷ filter (seen w) xs) (filter (seen w) xs)

pub view_none : (w : ℕ) → view w [] ≡ []
unfolding view
view_none w = refl

-- of one cell, the test as a number
pub seen_one : (w : ℕ) (x : Cell) (t : Bool) (n : ℕ) → t ≡ seen w x → n ≡ bool_byte t → n ≡ length (view w (x ∷ []))
unfolding view
seen_one w x true n e f = rw (f, sym e)
seen_one w x false n e f = rw (f, sym e)

length_view : (w : ℕ) (xs ys : List Cell) → length (view w (xs ++ ys)) ≡ length (view w xs) + length (view w ys)
length_view w xs ys = ap length (view_append w xs ys) ∙ length-append (view w xs) (view w ys)

-- as many are seen of a list in three parts as of the parts
length_view_parts : (w : ℕ) (xs ys zs : List Cell) → length (view w (xs ++ (ys ++ zs))) ≡ length (view w xs) + (length (view w ys) + length (view w zs))
length_view_parts w xs ys zs = length_view w xs (ys ++ zs) ∙ ap (λ n. length (view w xs) + n) (length_view w ys zs)

parts : (xs : List Cell) (o n : ℕ) → take o xs ++ (take n (drop o xs) ++ drop (o + n) xs) ≡ xs
parts xs o n =
    let a = take-append-drop o xs in
    let b = take-append-drop n (drop o xs) in
    let d = drop-drop n o xs in
    cc

-- what is seen where cells are replaced, and of those that went: what was seen, and of those that came
pub seen_replaced : (w : ℕ) (xs : List Cell) (o n : ℕ) (ys : List Cell)
    → length (view w (replaced xs o n ys)) + length (view w (take n (drop o xs))) ≡ length (view w xs) + length (view w ys)
seen_replaced w xs o n ys =
    let a = length_view_parts w (take o xs) ys (drop (o + n) xs) in
    let b = length_view_parts w (take o xs) (take n (drop o xs)) (drop (o + n) xs) in
    let e = ap (λ zs. length (view w zs)) (parts xs o n) in
    omega arith

pub seen_none : (w : ℕ) (xs : List Cell) (o : ℕ) → 0 ≡ length (view w (take 0 (drop o xs)))
seen_none w xs o = sym (ap length (view_none w))

-- of a part no more are seen than of the whole
pub seen_part : (w : ℕ) (xs : List Cell) (o n : ℕ) → length (view w (take n (drop o xs))) ≤ length (view w xs)
seen_part w xs o n =
    let b = length_view_parts w (take o xs) (take n (drop o xs)) (drop (o + n) xs) in
    let e = ap (λ zs. length (view w zs)) (parts xs o n) in
    omega arith

pub view_most : (w : ℕ) (xs : List Cell) → length (view w xs) ≤ length xs
view_most w xs = let e = ap length (view_filter w xs) in let b = length-filter_both (seen w) (λ x. not (seen w x)) (λ x. refl) xs in omega arith

-- in way 0 all cells are seen
pub view_all : (xs : List Cell) → view 0 xs ≡ xs
unfolding view seen
view_all [] = refl
view_all (x ∷ xs) = ap (λ ys. x ∷ ys) (view_all xs)

-- one list more
pub view_more : (w : ℕ) (f : ℕ → List Cell) (k : ℕ) → length (view w (strung f 0 (k + 1))) ≡ length (view w (strung f 0 k)) + length (view w (f k))
view_more w f k =
    let i : k + 1 ≡ suc k = omega arith in
    let m = strung_more f k in
    let both = view_append w (strung f 0 k) (f k) in
    let l = length-append (view w (strung f 0 k)) (view w (f k)) in
    let t : length (view w (strung f 0 (k + 1))) ≡ length (view w (strung f 0 k) ++ view w (f k)) = cc in
    t ∙ l

-- the tree that begins at word t counts the cells of s lists that are seen in way w
pub record Counts (f : ℕ → List Cell) (p : List ℕ) (s t w : ℕ) : Type 0 where
  pub most : s ≤ 2048
  pub sums : Sums (drop t p)
  pub here : (k : ℕ) → k < s → leaf p t k ≡ length (view w (f k))
  pub idle : (k : ℕ) → s ≤ k → k < 2048 → leaf p t k ≡ 0

-- leaf k of the tree
pub leaf_at : (p : List ℕ) (t k : ℕ) → get_or (drop t p) (2048 + k) 0 ≡ leaf p t k
leaf_at p t k = let e : t + (2048 + k) ≡ t + 2048 + k = omega arith in get_or-drop t p (2048 + k) 0 ∙ ap (λ i. get_or p i 0) e

module _ (f : ℕ → List Cell) (p : List ℕ) (s t w : ℕ) (n : Counts f p s t w) where
  -- the leaves before leaf k
  pub total_seen : (k : ℕ) → k ≤ s → total (drop t p) 2048 k ≡ length (view w (strung f 0 k))
  total_seen zero l = total_none (drop t p) 2048 ∙ ap length (sym (ap (view w) (strung_zero f 0) ∙ view_none w))
  total_seen (suc k) l =
      let i : suc k ≡ k + 1 = omega arith in
      let m = total_more (drop t p) 2048 k in
      let a = leaf_at p t k in
      let h = n.here k (omega arith) in
      let v = view_more w f k in
      let r = total_seen k (omega arith) in
      rw i (omega arith)

  total_idle : (i : ℕ) → s + i ≤ 2048 → total (drop t p) 2048 (s + i) ≡ total (drop t p) 2048 s
  total_idle zero l = rw add-zero
  total_idle (suc i) l =
      let e : s + suc i ≡ s + i + 1 = omega arith in
      let m = total_more (drop t p) 2048 (s + i) in
      let a = leaf_at p t (s + i) in
      let z = n.idle (s + i) (omega arith) (omega arith) in
      let r = total_idle i (omega arith) in
      rw e (omega arith)

  -- the root
  pub root_seen : get_or p (t + 1) 0 ≡ length (view w (strung f 0 s))
  root_seen =
      let r = root_total (drop t p) n.sums in
      let g = get_or-drop t p 1 0 in
      let m = n.most in
      let i = total_idle (2048 - s) (omega arith) in
      let e : s + (2048 - s) ≡ 2048 = omega arith in
      let j : total (drop t p) 2048 2048 ≡ total (drop t p) 2048 s = rw e at i in
      sym g ∙ r ∙ j ∙ total_seen s (omega arith)

-- the tree of each way
pub counts : (c p : List ℕ) (s : ℕ) → Kept c p s → (way : Way) → Counts (piece c p) p s (tree_at way) (way_number way)
counts c p s k Everything =
    record {
      most = k.store.table.order.most;
      sums = k.store.table.sums;
      here = λ i l. sym (ap length (view_all (piece c p i)) ∙ length_piece c p i);
      idle = k.store.table.order.idle;
    }
counts c p s k Accepted =
    record { most = k.store.table.order.most; sums = (trees_of k).accepted; here = λ i l. (tallied_of k i l).accepted; idle = (trees_of k).none_accepted }
counts c p s k Rejected =
    record { most = k.store.table.order.most; sums = (trees_of k).rejected; here = λ i l. (tallied_of k i l).rejected; idle = (trees_of k).none_rejected }

pub found_seen : (c p : List ℕ) (s t w place k o : ℕ) → Counts (piece c p) p s t w → Found (drop t p) place k o → FoundSeen c p s w place k o
found_seen c p s t w place k o n f =
    let a = leaf_at p t k in
    let i = f.inside in
    let here : k < s =
    elim (cases_lt k s) [ inl h ↦ h | inr h ↦ absurd (let z = n.idle k h f.within in omega arith) ] in
    let h = n.here k here in
    let m = total_seen (piece c p) p s t w n k (omega arith) in
    let u = f.sum in
    record { here = here; within = omega arith; sum = omega arith }
