use Rattle.std.proofs.Common.{rules}
use Rattle.page.specs.Page.{page_of}
use Rattle.page.proofs.write_page.Goals as goal

pub returns : goal.returns
returns c = c.print_by.ensures page_of (λ out left p r e. search rules)
