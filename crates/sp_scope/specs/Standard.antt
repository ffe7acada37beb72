-- None of this belongs to what the program promises: it is for contracts between crates.
-- The standard names, declared one by one, in the order of sp_tree's `standard`. The contracts of `standard` cite it,
-- since one function for all of them would be too long to prove.
use Rattle.std.specs.Prelude.{codes}
use Rattle.sp_tree.specs.declared.operators.StandardFn.TheVariants as fn
use Rattle.sp_tree.specs.declared.meaning.StandardProcedure.TheVariants as procedure
use Rattle.sp_tree.specs.declared.meaning.Meaning.TheVariants as meaning
use Rattle.sp_tree.specs.Scopes.{Scope, put}

-- the standard types and constants
abbrev pub with_types : Scope → Scope
with_types b = put (put (put (put (put (put b (codes "integer") (meaning.Kind 0)) (codes "boolean") (meaning.Kind 1))
    (codes "char") (meaning.Kind 2)) (codes "false") (meaning.Constant 0)) (codes "true") (meaning.Constant 1))
    (codes "maxint") (meaning.Constant 2)

-- the standard functions
abbrev pub with_functions : Scope → Scope
with_functions b = put (put (put (put (put (put
    (put (put (put b (codes "abs") (meaning.StandardFunction fn.Abs)) (codes "sqr") (meaning.StandardFunction fn.Sqr))
    (codes "odd") (meaning.StandardFunction fn.Odd)) (codes "ord") (meaning.StandardFunction fn.Ord)) (codes "chr")
    (meaning.StandardFunction fn.Chr)) (codes "succ") (meaning.StandardFunction fn.Succ)) (codes "pred")
    (meaning.StandardFunction fn.Pred)) (codes "eof") (meaning.StandardFunction fn.Eof)) (codes "eoln")
    (meaning.StandardFunction fn.Eoln)

-- the standard procedures
abbrev pub with_procedures : Scope → Scope
with_procedures b = put (put (put (put (put (put (put b (codes "read") (meaning.StandardProcedure procedure.Read))
    (codes "readln") (meaning.StandardProcedure procedure.Readln)) (codes "write")
    (meaning.StandardProcedure procedure.Write)) (codes "writeln") (meaning.StandardProcedure procedure.Writeln))
    (codes "open") (meaning.StandardProcedure procedure.Open)) (codes "send")
    (meaning.StandardProcedure procedure.Send)) (codes "receive") (meaning.StandardProcedure procedure.Receive)
