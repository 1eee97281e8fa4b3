-- A whole line as a call, and the bytes of that call.
use Rattle.std.proofs.Common.{◌≡◌, ℕ, zero, suc, ◌+◌, ◌-◌, ◌/◌, ◌%◌, ◌^◌, ◌<◌, ◌≤◌, max, Bool, true, false, List, [], ◌∷◌, ◌++◌, length, get_or, take, drop, sym, refl, ap, ◌∙◌, arith, length-drop}
use Rattle.std.proofs.lemmas.List.{take_more, take_all, append_assoc, append-nil}
use Rattle.model.specs.Paper.{pick}
use Rattle.model.specs.Calls.{Call}
use Rattle.codec.specs.Bytes.{word_bytes, words_bytes, call_bytes}
use Rattle.text.specs.Lines.{Step, got, stop, shape_of, call_of, call_in, Reading, means, ceases, reading_from, limits_in, limits_reading, Lacks, Fails}
use Rattle.text.specs.declared.fault.Fault.{Fault}
use Rattle.text.specs.declared.fault.Fault.TheVariants.{Place, Memory}

-- a number as four bytes, as the code makes them
pub word_is : (n : ℕ) → n < 2 ^ 32 → n % 256 ∷ (n / 256 % 256 ∷ (n / 65536 % 256 ∷ (n / 16777216 % 256 ∷ []))) ≡ word_bytes n
unfolding word_bytes
word_is n h =
    let e : n / 16777216 % 256 ≡ n / 16777216 = omega arith in
    ap (λ z. n % 256 ∷ (n / 256 % 256 ∷ (n / 65536 % 256 ∷ (z ∷ [])))) e

words_push : (xs : List ℕ) (x : ℕ) → words_bytes (xs ++ (x ∷ [])) ≡ words_bytes xs ++ word_bytes x
unfolding words_bytes
words_push [] x = append-nil (word_bytes x)
words_push (y ∷ xs) x = ap (λ zs. word_bytes y ++ zs) (words_push xs x) ∙ sym (append_assoc (word_bytes y) (words_bytes xs) (word_bytes x))

pub words_none : words_bytes [] ≡ []
unfolding words_bytes
words_none = refl

pub words_more : (xs : List ℕ) (i : ℕ) → i < length xs → words_bytes (take (i + 1) xs) ≡ words_bytes (take i xs) ++ word_bytes (get_or xs i 0)
words_more xs i h = ap words_bytes (take_more xs i 0 h) ∙ words_push (take i xs) (get_or xs i 0)

-- the bytes of a call's numbers and letters, joined as the code appends them
pub words_all : (xs : List ℕ) (i k : ℕ) → length xs ≤ i → k ∷ words_bytes (take i xs) ≡ k ∷ words_bytes xs
words_all xs i k h = ap (λ ys. k ∷ words_bytes ys) (take_all i xs h)

pub joined_letters : (k : ℕ) (ws cs ls : List ℕ) (b : Bool) → b ≡ true → ((k ∷ ws) ++ cs) ++ ls ≡ k ∷ (ws ++ pick b (cs ++ ls) [])
joined_letters k ws cs ls b e = rw e (ap (λ z. k ∷ z) (append_assoc ws cs ls))

pub joined_plain : (k : ℕ) (ws ls : List ℕ) (b : Bool) → b ≡ false → k ∷ ws ≡ k ∷ (ws ++ pick b ls [])
joined_plain k ws ls b e = rw e (ap (λ z. k ∷ z) (sym (append-nil ws)))

-- n numbers of a list, from place i on
abbrev pub firsts : ℕ → ℕ → List ℕ → List ℕ
firsts i zero ns = []
firsts i (suc n) ns = get_or ns i 0 ∷ firsts (suc i) n ns

firsts_rest : (i n x : ℕ) (xs : List ℕ) → firsts (suc i) n (x ∷ xs) ≡ firsts i n xs
firsts_rest i zero x xs = refl
firsts_rest i (suc n) x xs = ap (λ ys. get_or xs i 0 ∷ ys) (firsts_rest (suc i) n x xs)

pub spread : (n : ℕ) (ns : List ℕ) → length ns ≡ n → ns ≡ firsts 0 n ns
spread zero [] e = refl
spread zero (x ∷ xs) e = absurd (let z : ◌≡◌ {A = ℕ} 0 1 = cc in omega arith)
spread (suc n) [] e = absurd (let z : ◌≡◌ {A = ℕ} 0 1 = cc in omega arith)
spread (suc n) (x ∷ xs) e =
    let k : length xs ≡ n = omega arith in
    ap (λ ys. x ∷ ys) (spread n xs k ∙ sym (firsts_rest 0 n x xs))

plain_bytes : (k : ℕ) (ns ms : List ℕ) → ns ≡ ms → k ∷ words_bytes ms ≡ k ∷ (words_bytes ns ++ [])
plain_bytes k ns ms e = ap (λ xs. k ∷ words_bytes xs) (sym e) ∙ ap (λ xs. k ∷ xs) (sym (append-nil (words_bytes ns)))

lettered_bytes : (k : ℕ) (ns ms : List ℕ) (n : ℕ) (ls : List ℕ) → ns ≡ ms → k ∷ (words_bytes (ms ++ (n ∷ [])) ++ ls) ≡ k ∷ (words_bytes ns ++ (word_bytes n ++ ls))
lettered_bytes k ns ms n ls e =
    ap (λ xs. k ∷ (words_bytes (xs ++ (n ∷ [])) ++ ls)) (sym e)
    ∙ (ap (λ xs. k ∷ (xs ++ ls)) (words_push ns n) ∙ ap (λ xs. k ∷ xs) (append_assoc (words_bytes ns) (word_bytes n) ls))

-- the bytes of a call by its number, its numbers and its letters
pub call_of_bytes : (k : ℕ) (ns ls : List ℕ) → k < 12 → length ns ≡ (shape_of k).count → call_bytes (call_of k ns ls) ≡ k ∷ (words_bytes ns ++ pick (shape_of k).lettered (word_bytes (length ls) ++ ls) [])
unfolding call_of call_bytes words_bytes
call_of_bytes zero ns ls h e = lettered_bytes 0 ns (firsts 0 3 ns) (length ls) ls (spread 3 ns e)
call_of_bytes (suc zero) ns ls h e = plain_bytes 1 ns (firsts 0 3 ns) (spread 3 ns e)
call_of_bytes (suc (suc zero)) ns ls h e = plain_bytes 2 ns (firsts 0 1 ns) (spread 1 ns e)
call_of_bytes (suc (suc (suc zero))) ns ls h e = plain_bytes 3 ns (firsts 0 1 ns) (spread 1 ns e)
call_of_bytes (suc (suc (suc (suc zero)))) ns ls h e = plain_bytes 4 ns (firsts 0 3 ns) (spread 3 ns e)
call_of_bytes (suc (suc (suc (suc (suc zero))))) ns ls h e = plain_bytes 5 ns [] (spread 0 ns e)
call_of_bytes (suc (suc (suc (suc (suc (suc zero)))))) ns ls h e = plain_bytes 6 ns [] (spread 0 ns e)
call_of_bytes (suc (suc (suc (suc (suc (suc (suc zero))))))) ns ls h e = plain_bytes 7 ns (firsts 0 4 ns) (spread 4 ns e)
call_of_bytes (suc (suc (suc (suc (suc (suc (suc (suc zero)))))))) ns ls h e = lettered_bytes 8 ns (firsts 0 2 ns) (length ls) ls (spread 2 ns e)
call_of_bytes (suc (suc (suc (suc (suc (suc (suc (suc (suc zero))))))))) ns ls h e = plain_bytes 9 ns (firsts 0 1 ns) (spread 1 ns e)
call_of_bytes (suc (suc (suc (suc (suc (suc (suc (suc (suc (suc zero)))))))))) ns ls h e = plain_bytes 10 ns (firsts 0 1 ns) (spread 1 ns e)
call_of_bytes (suc (suc (suc (suc (suc (suc (suc (suc (suc (suc (suc zero))))))))))) ns ls h e = plain_bytes 11 ns (firsts 0 2 ns) (spread 2 ns e)
call_of_bytes (suc (suc (suc (suc (suc (suc (suc (suc (suc (suc (suc (suc k)))))))))))) ns ls h e = absurd (omega arith)

-- the bytes that the code writes are those of the call that it read
pub made : (k : ℕ) (ns ls : List ℕ) (b : Bool) (bs : List ℕ) → k < 12 → length ns ≡ (shape_of k).count → b ≡ (shape_of k).lettered → bs ≡ k ∷ (words_bytes ns ++ pick b (word_bytes (length ls) ++ ls) []) → bs ≡ call_bytes (call_of k ns ls)
made k ns ls b bs h en eb e = e ∙ (ap (λ l. k ∷ (words_bytes ns ++ pick l (word_bytes (length ls) ++ ls) [])) eb ∙ sym (call_of_bytes k ns ls h en))

pub fails_from_lacks : (s : Step Call) (xs : List ℕ) (f : Fault) → Lacks f → Fails s xs f
fails_from_lacks s xs (Place i) l = absurd l
fails_from_lacks s xs Memory l = tt

-- the calls from number k on: one more of them is tried
abbrev pub tried : ℕ → ℕ → ℕ → List ℕ → Step Call → Reading Call
tried n k far xs (got c rest) = means c
tried n k far xs (stop rest) = reading_from n (k + 1) (max far (length xs - length rest)) xs

reading_next : (k far : ℕ) (xs : List ℕ) (s : Step Call) → k < 12 → call_in k xs ≡ s → reading_from (12 - k) k far xs ≡ tried (12 - (k + 1)) k far xs s
unfolding reading_from
reading_next k far xs s h e =
    let one : 12 - k ≡ suc (12 - (k + 1)) = omega arith in
    ap (λ n. reading_from n k far xs) one ∙ ap (tried (12 - (k + 1)) k far xs) e

pub reading_got : (k far : ℕ) (xs : List ℕ) (c : Call) → k < 12 → call_in k xs ≡ got c [] → reading_from (12 - k) k far xs ≡ means c
reading_got k far xs c h e = reading_next k far xs (got c []) h e

pub reading_stop : (k far : ℕ) (xs : List ℕ) (i : ℕ) → k < 12 → i ≤ length xs → call_in k xs ≡ stop (drop i xs) → reading_from (12 - k) k far xs ≡ reading_from (12 - (k + 1)) (k + 1) (max far i) xs
reading_stop k far xs i h le e =
    let at : length xs - length (drop i xs) ≡ i = simp length-drop (omega arith) in
    reading_next k far xs (stop (drop i xs)) h e ∙ ap (λ j. reading_from (12 - (k + 1)) (k + 1) (max far j) xs) at

pub reading_none : (k far : ℕ) (xs : List ℕ) → 12 ≤ k → reading_from (12 - k) k far xs ≡ ceases far
unfolding reading_from
reading_none k far xs h = let z : 12 - k ≡ 0 = omega arith in ap (λ n. reading_from n k far xs) z

-- the line of the limits, by how its head is read
abbrev pub placed : List ℕ → Step (List ℕ) → Reading (List ℕ)
placed xs (got ns rest) = means ns
placed xs (stop rest) = ceases (length xs - length rest)

limits_is : (xs : List ℕ) (s : Step (List ℕ)) → limits_in xs ≡ s → limits_reading xs ≡ placed xs s
unfolding limits_reading
limits_is xs s e = ap (placed xs) e

pub limits_stop : (xs rest : List ℕ) → limits_in xs ≡ stop rest → limits_reading xs ≡ ceases (length xs - length rest)
limits_stop xs rest e = limits_is xs (stop rest) e

pub limits_whole : (xs ns : List ℕ) → length ns ≡ 3 → limits_in xs ≡ got ns [] → limits_reading xs ≡ means (get_or ns 0 0 ∷ (get_or ns 1 0 ∷ (get_or ns 2 0 ∷ [])))
limits_whole xs ns three e = limits_is xs (got ns []) e ∙ ap (λ ms. means ms) (spread 3 ns three)
