use Rattle.sp_codefile.proofs.TextLaws.{child_put}
use Rattle.sp_codefile.proofs.line_writer.put_child.Goals as goal

pub returns-clause-text : goal.returns-clause-text
returns-clause-text c = λ kept.
    let index = c.put_index.ensures.text kept in
    let lists = c.put_lists.ensures.text index.0 in
    let entry = c.put_child_entry.ensures lists.0 in (
      entry.0,
      child_put c.args.table c.args.number c.args.child.now c.args.out.now.items.items _ _ _ entry.1 lists.1 index.1,
    )
