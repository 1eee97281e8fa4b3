-- A call is readable if, and only if, its bytes are below 256.
use Rattle.std.proofs.Common.{◌≡◌, ℕ, ◌/◌, ◌%◌, ◌&&◌, ltb, List, ◌++◌, refl, append_assoc, arith}
use mathlib.Core.Bool.{and_assoc, and-true}
use Rattle.std.proofs.lemmas.Bool.{lt-ltb}
use Rattle.model.specs.Calls.{put, strikes, accepts, rejects, styles, undo, redo, show, find, count, change, save}
use Rattle.model.specs.Promise.{readable, all_below}
use Rattle.codec.specs.Bytes.{word_bytes, words_bytes, call_bytes}
use Rattle.codec.specs.Laws.{ReadableIs}

last_byte : (n : ℕ) → ltb (n / 16777216) 256 ≡ ltb n 4294967296
last_byte n = grind arith

below_word : (n : ℕ) (bs : List ℕ) → all_below 256 (word_bytes n ++ bs) ≡ (ltb n 4294967296 && all_below 256 bs)
unfolding word_bytes all_below
below_word n bs =
    rw (lt-ltb (n % 256) 256 (omega arith), lt-ltb (n / 256 % 256) 256 (omega arith), lt-ltb (n / 65536 % 256) 256 (omega arith), last_byte n)

pub readable_is : ReadableIs
unfolding call_bytes words_bytes readable all_below
readable_is (put a i s ls) = simp (below_word, append_assoc, and_assoc)
readable_is (strikes a i n) = simp (below_word, and-true)
readable_is (accepts c) = simp (below_word, and-true)
readable_is (rejects c) = simp (below_word, and-true)
readable_is (styles i n s) = simp (below_word, and-true)
readable_is undo = refl
readable_is redo = refl
readable_is (show k w r n) = simp (below_word, and_assoc, and-true)
readable_is (find k i ls) = simp (below_word, append_assoc, and_assoc)
readable_is (count k) = simp (below_word, and-true)
readable_is (change c) = simp (below_word, and-true)
readable_is (save i n) = simp (below_word, and-true)
