use native.Mathlib.Omega.{arith}
use mathlib.Core.Path.{◌≡◌, ap}
use lib.ListN.{length, length-take, length-drop, length-replicate}
use Rattle.store.specs.Layout.{place_width}
use Rattle.create_command.proofs.Steps.{carried_room, carried_long, made_alone, made_with}
use Rattle.create_command.proofs.new_contents.Goals as goal

pub slice_bounds-copy_in-end-2 : goal.slice_bounds-copy_in-end-2
slice_bounds-copy_in-end-2 c =
    let e = c.carried_size-size.ensures in
    let z = carried_room c.args.product c.args.class c.args.v.now c.requires.2 in
    omega arith

pub copy_in-requires : goal.copy_in-requires
copy_in-requires c =
    let e = c.carried_size-size.ensures in
    let z = carried_room c.args.product c.args.class c.args.v.now c.requires.2 in
    simp (length-take, length-drop, length-replicate) (omega arith)

pub copy_in-requires-2 : goal.copy_in-requires-2
copy_in-requires-2 c =
    let a = c.args in
    let n = carried_long a.product a.class a.v.now c.requires.2 c.requires.1 c.carried_size-size.ensures c.copy_in.ensures in
    let m : length a.c.now ≡ place_width = ap length c.requires.0 in
    omega arith

pub lay_others-requires : goal.lay_others-requires
lay_others-requires c =
    let a = c.args in
    let m : length a.c.now ≡ place_width = ap length c.requires.0 in
    (omega arith, carried_long a.product a.class a.v.now c.requires.2 c.requires.1 c.carried_size-size.ensures c.copy_in.ensures)

pub returns-in-Some : goal.returns-in-Some
returns-in-Some c =
    let a = c.args in
    made_with a.product a.class a.v.now c.requires.2 c.requires.1 c.carried_size-size.ensures c.copy_in.ensures c.requires.0 c.copy_in-2.ensures
    c.in-Some.companion c.in-Some.ensures c.lay_others.ensures

pub returns-in_default : goal.returns-in_default
returns-in_default c =
    let a = c.args in
    made_alone a.product a.class a.v.now c.requires.2 c.requires.1 c.carried_size-size.ensures c.copy_in.ensures c.requires.0 c.copy_in-2.ensures c.in_default.ensures
