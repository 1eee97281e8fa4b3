use Rattle.std.proofs.Common.{◌≡◌, List, ℕ, [], ◌∷◌, ◌++◌, map, vec_items, codes, ap, ◌∙◌}
use Rattle.std.proofs.lemmas.List.{append_assoc}
use Rattle.model.specs.Values.{change_of}
use Rattle.printing.specs.Values.{cells_of}
use Rattle.markup.specs.Marked.{marked}
use Rattle.page.specs.Page.{lined}
use Rattle.page.proofs.Written.{was_ok}
use Rattle.printing.proofs.Joins.{join3, same}
use Rattle.page.proofs.push_part.Goals as goal

pub returns : goal.returns
returns c =
    let out = vec_items c.args.out.now in
    let name = c.args.name.now in
    let after : List ℕ = lined (codes "</h2>" ∷ []) ++ codes "<div class='text'>" in
    let cells : List ℕ = marked (map change_of c.args.changes.now) (cells_of c.args.cells.now) in
    let end : List ℕ = lined (codes "</div>" ∷ []) in
    let head : vec_items c.write.new.self ≡ out ++ (codes "<h2>" ++ (name ++ after)) = was_ok c.write.result c.in_ok-map_err.ensures.variant c.write.ensures.bytes in
    join3 out (same (codes "<h2>" ++ (name ++ after))) head (same cells) c.in_ok-push_cells.ensures (same end) c.in_ok-extend_from_slice.ensures.items
    ∙ ap (λ ls. out ++ (codes "<h2>" ++ ls)) (append_assoc name after (cells ++ end))
