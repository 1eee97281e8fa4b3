use Rattle.std.proofs.Common.{◌-◌}
use Rattle.session.proofs.Reversing.{accept_allowed, reject_allowed, strike_allowed, style_allowed}
use Rattle.session.proofs.desk.Desk.again.Goals as goal

pub write_strike-requires : goal.write_strike-requires
write_strike-requires c =
    let h = c.args.head in
    let ok = strike_allowed c.args.self.now.cells.now c.args.self.now.pieces.now h.who h.place (h.count - 1) (rw c.in-Strike.is at c.requires.allowed) in
    record { within = ok.0; room = ok.1 }

pub write_verdict-requires : goal.write_verdict-requires
write_verdict-requires c = accept_allowed c.args.self.now.cells.now c.args.self.now.pieces.now c.args.head.who (rw c.in-Accept.is at c.requires.allowed)

pub write_verdict-requires-in-Reject : goal.write_verdict-requires-in-Reject
write_verdict-requires-in-Reject c = reject_allowed c.args.self.now.cells.now c.args.self.now.pieces.now c.args.head.who (rw c.in-Reject.is at c.requires.allowed)

pub write_style-requires : goal.write_style-requires
write_style-requires c =
    let h = c.args.head in
    style_allowed c.args.self.now.cells.now c.args.self.now.pieces.now h.place (h.count - 1) h.style (rw c.in-Style.is at c.requires.allowed)
