-- The bytes of a call are read as that call.
use Rattle.std.proofs.Common.{length, arith}
use Rattle.model.specs.Calls.{put, strikes, accepts, rejects, styles, undo, redo, show, find, count, change, save}
use Rattle.codec.specs.Bytes.{word_bytes, words_bytes, call_bytes}
use Rattle.codec.specs.Laws.{ReadsBack}
use Rattle.codec.proofs.Words.{word_back}
use Rattle.codec.proofs.Readings.{whole}

pub reads_back : ReadsBack
unfolding call_bytes words_bytes word_bytes
reads_back (put a i s ls) fits = rw (whole (call_bytes (put a i s ls)) (omega arith) (omega arith) (omega arith) (rw (word_back (length ls)) (omega arith)), word_back a, word_back i, word_back s)
reads_back (strikes a i n) fits = rw (whole (call_bytes (strikes a i n)) (omega arith) (omega arith) (omega arith) (omega arith), word_back a, word_back i, word_back n)
reads_back (accepts c) fits = rw (whole (call_bytes (accepts c)) (omega arith) (omega arith) (omega arith) (omega arith), word_back c)
reads_back (rejects c) fits = rw (whole (call_bytes (rejects c)) (omega arith) (omega arith) (omega arith) (omega arith), word_back c)
reads_back (styles i n s) fits = rw (whole (call_bytes (styles i n s)) (omega arith) (omega arith) (omega arith) (omega arith), word_back i, word_back n, word_back s)
reads_back undo fits = whole (call_bytes undo) (omega arith) (omega arith) (omega arith) (omega arith)
reads_back redo fits = whole (call_bytes redo) (omega arith) (omega arith) (omega arith) (omega arith)
reads_back (show k w r n) fits = rw (whole (call_bytes (show k w r n)) (omega arith) (omega arith) (omega arith) (omega arith), word_back k, word_back w, word_back r, word_back n)
reads_back (find k i ls) fits = rw (whole (call_bytes (find k i ls)) (omega arith) (omega arith) (omega arith) (rw (word_back (length ls)) (omega arith)), word_back k, word_back i)
reads_back (count k) fits = rw (whole (call_bytes (count k)) (omega arith) (omega arith) (omega arith) (omega arith), word_back k)
reads_back (change c) fits = rw (whole (call_bytes (change c)) (omega arith) (omega arith) (omega arith) (omega arith), word_back c)
reads_back (save i n) fits = rw (whole (call_bytes (save i n)) (omega arith) (omega arith) (omega arith) (omega arith), word_back i, word_back n)
