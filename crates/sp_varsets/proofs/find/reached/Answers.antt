use Rattle.std.proofs.Common.{ap, arith, length, map, sym, subst}
use Rattle.sp_base.proofs.Facts.{length_of_map}
use Rattle.sp_tree.specs.Bare.{without_places, bare_block, variable_of}
use Rattle.sp_tree.specs.CheckedOf.{block_of, program_of}
use Rattle.sp_varsets.specs.Bodies.{AreDeclared}
use Rattle.sp_varsets.proofs.find.reached.Goals as goal

pub returns : goal.returns
returns c =
    let targets = rw (c.items-calls.ensures, c.items-hidden_rows.ensures, c.items-2.ensures)
    at c.in-Ok-closed.ensures in
    let expressions = rw (c.items-calls.ensures, c.items-hidden_rows.ensures, c.items-3.ensures)
    at c.in-Ok-closed-2.ensures in
    let stops = rw (c.items-calls.ensures, c.items-free_rows.ensures, c.items-4.ensures) at c.in-Ok-closed-3.ensures in
    record {
      declared = (
        c.in-Ok.value,
        subst (λ n. AreDeclared (without_places (program_of c.args.checked.now)) c.in-Ok.value n)
            (sym (length_of_map variable_of c.args.checked.now.variables)) c.in-Ok.ensures,
        targets,
        expressions,
      );
      free = (c.in-Ok-empty_rows.value, c.in-Ok-empty_rows.ensures.empty, stops);
    }

pub closed-requires : goal.closed-requires
closed-requires c =
    let b = c.requires.bodies in
    let bs = c.args.checked.now.blocks in
    let own = ap length c.items-2.ensures in
    record {
      calls = omega (arith, b.calls, b.targets, own, ap length c.items-calls.ensures);
      hidden = omega (
        arith,
        b.targets,
        own,
        ap length c.items-hidden_rows.ensures,
        c.in-Ok.ensures.count,
        length_of_map bare_block (map block_of bs),
        length_of_map block_of bs,
      );
      small = omega (arith, b.targets, own, c.requires.blocks);
    }

pub closed-requires-2 : goal.closed-requires-2
closed-requires-2 c =
    let b = c.requires.bodies in
    let bs = c.args.checked.now.blocks in
    let own = ap length c.items-3.ensures in
    record {
      calls = omega (arith, b.calls, b.expressions, own, ap length c.items-calls.ensures);
      hidden = omega (
        arith,
        b.expressions,
        own,
        ap length c.items-hidden_rows.ensures,
        c.in-Ok.ensures.count,
        length_of_map bare_block (map block_of bs),
        length_of_map block_of bs,
      );
      small = omega (arith, b.expressions, own, c.requires.blocks);
    }

pub closed-requires-3 : goal.closed-requires-3
closed-requires-3 c =
    let b = c.requires.bodies in
    let own = ap length c.items-4.ensures in
    record {
      calls = omega (arith, b.calls, b.stops, own, ap length c.items-calls.ensures);
      hidden = omega (
        arith,
        b.stops,
        own,
        ap length c.items-free_rows.ensures,
        c.in-Ok-empty_rows.ensures.rows,
        c.len.ensures,
      );
      small = omega (arith, b.stops, own, c.requires.blocks);
    }
