-- One piece after another is appended. What a piece is in the code's terms, q, is what it is by its name, p.
use Rattle.std.proofs.Common.{◌≡◌, ℕ, List, ◌++◌, refl}
use Rattle.std.proofs.lemmas.List.{append_assoc}
use Rattle.std.specs.Prelude.{OnOk, Result, Ok, Err}

pub same : (p : List ℕ) → p ≡ p
same p = refl

pub join2 : (start : List ℕ) {v1 v2 q1 q2 p1 p2 : List ℕ} → q1 ≡ p1 → v1 ≡ start ++ q1 → q2 ≡ p2 → v2 ≡ v1 ++ q2 → v2 ≡ start ++ (p1 ++ p2)
join2 start {v1} {v2} {q1} {q2} {p1} {p2} n1 e1 n2 e2 = let a : (start ++ p1) ++ p2 ≡ start ++ (p1 ++ p2) = simp append_assoc in cc

pub join3 : (start : List ℕ) {v1 v2 v3 q1 q2 q3 p1 p2 p3 : List ℕ} → q1 ≡ p1 → v1 ≡ start ++ q1 → q2 ≡ p2 → v2 ≡ v1 ++ q2 → q3 ≡ p3 → v3 ≡ v2 ++ q3 → v3 ≡ start ++ (p1 ++ (p2 ++ p3))
join3 start {v1} {v2} {v3} {q1} {q2} {q3} {p1} {p2} {p3} n1 e1 n2 e2 n3 e3 = let a : ((start ++ p1) ++ p2) ++ p3 ≡ start ++ (p1 ++ (p2 ++ p3)) = simp append_assoc in cc

pub join4 : (start : List ℕ) {v1 v2 v3 v4 q1 q2 q3 q4 p1 p2 p3 p4 : List ℕ} → q1 ≡ p1 → v1 ≡ start ++ q1 → q2 ≡ p2 → v2 ≡ v1 ++ q2 → q3 ≡ p3 → v3 ≡ v2 ++ q3 → q4 ≡ p4 → v4 ≡ v3 ++ q4 → v4 ≡ start ++ (p1 ++ (p2 ++ (p3 ++ p4)))
join4 start {v1} {v2} {v3} {v4} {q1} {q2} {q3} {q4} {p1} {p2} {p3} {p4} n1 e1 n2 e2 n3 e3 n4 e4 = let a : (((start ++ p1) ++ p2) ++ p3) ++ p4 ≡ start ++ (p1 ++ (p2 ++ (p3 ++ p4))) = simp append_assoc in cc

pub join5 : (start : List ℕ) {v1 v2 v3 v4 v5 q1 q2 q3 q4 q5 p1 p2 p3 p4 p5 : List ℕ} → q1 ≡ p1 → v1 ≡ start ++ q1 → q2 ≡ p2 → v2 ≡ v1 ++ q2 → q3 ≡ p3 → v3 ≡ v2 ++ q3 → q4 ≡ p4 → v4 ≡ v3 ++ q4 → q5 ≡ p5 → v5 ≡ v4 ++ q5 → v5 ≡ start ++ (p1 ++ (p2 ++ (p3 ++ (p4 ++ p5))))
join5 start {v1} {v2} {v3} {v4} {v5} {q1} {q2} {q3} {q4} {q5} {p1} {p2} {p3} {p4} {p5} n1 e1 n2 e2 n3 e3 n4 e4 n5 e5 = let a : ((((start ++ p1) ++ p2) ++ p3) ++ p4) ++ p5 ≡ start ++ (p1 ++ (p2 ++ (p3 ++ (p4 ++ p5)))) = simp append_assoc in cc

pub join9 : (start : List ℕ) {v1 v2 v3 v4 v5 v6 v7 v8 v9 q1 q2 q3 q4 q5 q6 q7 q8 q9 p1 p2 p3 p4 p5 p6 p7 p8 p9 : List ℕ} → q1 ≡ p1 → v1 ≡ start ++ q1 → q2 ≡ p2 → v2 ≡ v1 ++ q2 → q3 ≡ p3 → v3 ≡ v2 ++ q3 → q4 ≡ p4 → v4 ≡ v3 ++ q4 → q5 ≡ p5 → v5 ≡ v4 ++ q5 → q6 ≡ p6 → v6 ≡ v5 ++ q6 → q7 ≡ p7 → v7 ≡ v6 ++ q7 → q8 ≡ p8 → v8 ≡ v7 ++ q8 → q9 ≡ p9 → v9 ≡ v8 ++ q9 → v9 ≡ start ++ (p1 ++ (p2 ++ (p3 ++ (p4 ++ (p5 ++ (p6 ++ (p7 ++ (p8 ++ p9))))))))
join9 start {v1} {v2} {v3} {v4} {v5} {v6} {v7} {v8} {v9} {q1} {q2} {q3} {q4} {q5} {q6} {q7} {q8} {q9} {p1} {p2} {p3} {p4} {p5} {p6} {p7} {p8} {p9} n1 e1 n2 e2 n3 e3 n4 e4 n5 e5 n6 e6 n7 e7 n8 e8 n9 e9 = let a : ((((((((start ++ p1) ++ p2) ++ p3) ++ p4) ++ p5) ++ p6) ++ p7) ++ p8) ++ p9 ≡ start ++ (p1 ++ (p2 ++ (p3 ++ (p4 ++ (p5 ++ (p6 ++ (p7 ++ (p8 ++ p9)))))))) = simp append_assoc in cc

-- where the last piece is appended by the call whose answer is returned
pub at_end : {X E : Type 0} (r : Result X E) {p q : Type 0} → OnOk r p → (p → q) → OnOk r q
at_end (Ok x) h f = f h
at_end (Err e) h f = tt
