use Rattle.std.proofs.Common.{refl}
use Rattle.sp_parse.proofs.TokenBounds.{short}
use Rattle.sp_parse.proofs.TreeAnswers.{is_ready, refused, is_tree}
use Rattle.sp_parse.proofs.parser.parse.Goals as goal

pub end_of-end-requires : goal.end_of-end-requires
end_of-end-requires c = short c.args.text.now c.args.tokens.now c.requires

pub program-tree-requires : goal.program-tree-requires
program-tree-requires c = is_ready _ c.args.tokens.now c.end_of-end.ensures c.requires

pub returns-in-None : goal.returns-in-None
returns-in-None c = is_tree _ _ c.program-tree.new.tokens c.program-tree.result c.program-tree.ensures
    (c.finish.ensures.done c.in-None.is).0 (c.finish.ensures.done c.in-None.is).1

pub returns-in-Some : goal.returns-in-Some
returns-in-Some c = refused _ _ c.program-tree.new.tokens c.finish.new.tokens _ refl c.requires c.program-tree.ensures
    c.finish.ensures c.in-Some.is
