-- A list that is made element by element.
use Rattle.std.proofs.Common.{◌≡◌, ℕ, ◌+◌, ◌<◌, List, [], ◌∷◌, ◌++◌, map, length, get_or, take, Result, Ok, Err, Vec, vec_items, sym, refl, ap, ◌∙◌, append_assoc}
use Rattle.std.specs.List.{range_with_len}
use Rattle.std.specs.Prelude.{IfOk}
use Rattle.std.proofs.lemmas.List.{map_push, take_more, length_push, get_or_at}

pub read_more : {X Y : Type 0} (f : X → Y) (ys : List Y) (v after : List X) (x : X) (k : ℕ) →
    map f v ≡ take k ys → after ≡ v ++ (x ∷ []) → k < length ys → ((d : Y) → get_or ys k d ≡ f x) → map f after ≡ take (k + 1) ys
read_more {X} {Y} f ys v after x k inv e h g =
    ap (map f) e ∙ (map_push f v x ∙ (ap (λ zs. zs ++ (f x ∷ [])) inv ∙ (ap (λ (y : Y). take k ys ++ (y ∷ [])) (sym (g (f x))) ∙ sym (take_more ys k (f x) h))))

-- the elements of ys by their numbers, after those of zs
numbered : {Y : Type 0} (ys zs : List Y) (d : Y) → map (λ k. get_or (zs ++ ys) k d) (range_with_len (length zs) (length ys)) ≡ ys
numbered [] zs d = refl
numbered {Y} (y ∷ ys) zs d =
    let ih = rw (length_push zs y, append_assoc zs (y ∷ []) ys) at (numbered ys (zs ++ (y ∷ [])) d) in
    ap (λ x. x ∷ map (λ k. get_or (zs ++ (y ∷ ys)) k d) (range_with_len (length zs + 1) (length ys))) (get_or_at zs y ys d (length zs) refl) ∙ ap (λ xs. y ∷ xs) ih

pub all_read : {X Y Z E : Type 0} (f : X → Y) (ys : List Y) (d : Y) (n : ℕ) (r : Result (Vec X Z) E) → length ys ≡ n
    → IfOk r (λ v. map f (vec_items v) ≡ map (λ k. get_or ys k d) (range_with_len 0 n)) → IfOk r (λ v. map f (vec_items v) ≡ ys)
all_read f ys d n (Ok v) l e = e ∙ rw l at (numbered ys [] d)
all_read f ys d n (Err e) l t = t
