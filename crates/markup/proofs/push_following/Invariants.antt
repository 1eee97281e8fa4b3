use Rattle.std.proofs.Common.{◌≡◌, ◌-◌, ◌<◌, ◌++◌, map, length, get_or, vec_items}
use Rattle.std.specs.Slice.ArrayWindows.{array_windows_parts}
use Rattle.std.specs.Slice.Iter.{windows_rest, windows_size}
use Rattle.model.specs.Values.{change_of}
use Rattle.printing.specs.Values.{cells_of, none}
use Rattle.markup.specs.Marked.{followed}
use Rattle.markup.proofs.push_following.Given as goal

abbrev pub invariant-loop-x : goal.invariant-loop-x
invariant-loop-x l =
    let left = windows_rest (array_windows_parts l.x-iterator) in
    record {
      size : windows_size (array_windows_parts l.x-iterator) ≡ 2;
      some : 0 < length left;
      ends : get_or left (length left - 1) none ≡ l.last;
      so_far : vec_items l.out ++ followed (map change_of l.changes) (cells_of left) ≡ vec_items l.initial.out ++ followed (map change_of l.changes) (cells_of l.cells);
    }
