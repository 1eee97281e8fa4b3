use Rattle.std.proofs.Common.{◌≡◌, ap}
use Rattle.model.specs.declared.way.Way.{Way}
use Rattle.model.specs.declared.way.Way.TheVariants.{Everything, Accepted, Rejected}
use Rattle.printing.specs.Printed.{title}
use Rattle.model.specs.Values.{way_number}
use Rattle.printing.proofs.rows.title_of.Goals as goal

pub returns-in-Everything : goal.returns-in-Everything
returns-in-Everything c = let e : Everything ≡ c.args.way = cc in ap (λ (w : Way). title (way_number w)) e

pub returns-in-Accepted : goal.returns-in-Accepted
returns-in-Accepted c = let e : Accepted ≡ c.args.way = cc in ap (λ (w : Way). title (way_number w)) e

pub returns-in-Rejected : goal.returns-in-Rejected
returns-in-Rejected c = let e : Rejected ≡ c.args.way = cc in ap (λ (w : Way). title (way_number w)) e
