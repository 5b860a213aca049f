use native.Mathlib.Omega.{arith}
use mathlib.Core.Path.{◌≡◌}
use lib.ListN.{length}
use Rattle.store.specs.Layout.{place_length}
use Rattle.create_command.proofs.Steps.{first_long, second_long, blank_behind, new_placed}
use Rattle.create_command.proofs.new_place.Goals as goal

pub put_number-requires-2 : goal.put_number-requires-2
put_number-requires-2 c = let m : length c.put_number.new.s ≡ place_length = first_long c.args.class c.args.number c.requires.0 c.put_number.ensures in omega arith

pub slice_bounds-new_contents-count : goal.slice_bounds-new_contents-count
slice_bounds-new_contents-count c =
    let m : length c.put_number-2.new.s ≡ place_length = second_long c.args.class c.args.number c.requires.0 c.put_number.ensures c.put_number-2.ensures in omega arith

pub slice_bounds-new_contents-start : goal.slice_bounds-new_contents-start
slice_bounds-new_contents-start c =
    let m : length c.put_number-2.new.s ≡ place_length = second_long c.args.class c.args.number c.requires.0 c.put_number.ensures c.put_number-2.ensures in omega arith

pub new_contents-requires : goal.new_contents-requires
new_contents-requires c = (blank_behind c.args.class c.args.number c.requires.0 c.put_number.ensures c.put_number-2.ensures, c.requires.1, c.requires.2)

pub returns : goal.returns
returns c = new_placed c.args.class c.args.number c.requires.0 c.put_number.ensures c.put_number-2.ensures c.ranges.number.fits _ c.new_contents.ensures
