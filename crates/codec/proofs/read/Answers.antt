-- Each way out of the tests is a way that bytes can read.
use Rattle.std.proofs.Common.{◌≡◌, ◌+◌, ◌<◌, ◌≤◌, length, get_or, drop, rules, arith}
use Rattle.std.proofs.lemmas.List.{take_rest}
use Rattle.codec.specs.Kinds.{kind_number}
use Rattle.codec.specs.Reading.{head_length, whole_length}
use Rattle.codec.proofs.Readings.{no_byte, no_call, few_fields, few_letters, too_many, whole, known}
use Rattle.codec.proofs.read.Goals as goal

pub returns-in_default : goal.returns-in_default
returns-in_default c =
    let none : length c.args.bytes.now ≡ 0 = search rules in
    (no_byte c.args.bytes.now none, omega arith)

pub returns-in_default-try_from : goal.returns-in_default-try_from
returns-in_default-try_from c =
    let high : 12 ≤ get_or c.args.bytes.now 0 0 = search rules in
    (no_call c.args.bytes.now high, omega arith)

pub returns-then-len-head : goal.returns-then-len-head
returns-then-len-head c =
    let bs = c.args.bytes.now in
    let is : get_or bs 0 0 ≡ kind_number c.in-Ok.kind = search rules in
    let some : length bs ≡ 0 → ⊥ = search rules in
    let h : length bs < head_length (get_or bs 0 0) = rw (is, ← c.head_length-head.ensures) c.if-len-head.true in
    (few_fields bs some (known bs c.in-Ok.kind is) h, omega arith)

pub returns-then-len-whole : goal.returns-then-len-whole
returns-then-len-whole c =
    let bs = c.args.bytes.now in
    let is : get_or bs 0 0 ≡ kind_number c.in-Ok.kind = search rules in
    let some : length bs ≡ 0 → ⊥ = search rules in
    let e : head_length (get_or bs 0 0) ≤ length bs = rw (is, ← c.head_length-head.ensures) c.if-len-head.false in
    let w : whole_length bs ≡ c.head_length-head.result + c.letter_count.result = cc in
    let h : length bs < whole_length bs = rw w c.if-len-whole.true in
    (few_letters bs some (known bs c.in-Ok.kind is) e h, omega arith)

pub returns-then-whole-len : goal.returns-then-whole-len
returns-then-whole-len c =
    let bs = c.args.bytes.now in
    let is : get_or bs 0 0 ≡ kind_number c.in-Ok.kind = search rules in
    let some : length bs ≡ 0 → ⊥ = search rules in
    let e : head_length (get_or bs 0 0) ≤ length bs = rw (is, ← c.head_length-head.ensures) c.if-len-head.false in
    let w : whole_length bs ≡ c.head_length-head.result + c.letter_count.result = cc in
    let h : whole_length bs < length bs = rw w c.if-whole-len.true in
    let r = too_many bs some (known bs c.in-Ok.kind is) e h in
    (cc, omega arith)

pub returns : goal.returns
returns c =
    let bs = c.args.bytes.now in
    let is : get_or bs 0 0 ≡ kind_number c.in-Ok.kind = search rules in
    let some : length bs ≡ 0 → ⊥ = search rules in
    let e : head_length (get_or bs 0 0) ≤ length bs = rw (is, ← c.head_length-head.ensures) c.if-len-head.false in
    let w : whole_length bs ≡ c.head_length-head.result + c.letter_count.result = cc in
    let h : length bs ≡ whole_length bs = rw w (omega arith) in
    let r = whole bs some (known bs c.in-Ok.kind is) e h in
    let m = c.call.ensures (drop (head_length (get_or bs 0 0)) bs) in
    let t = take_rest bs (head_length (get_or bs 0 0)) in
    (cc, cc)
