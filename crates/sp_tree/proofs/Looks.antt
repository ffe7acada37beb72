-- The row of the table that a token selects.
use Rattle.std.proofs.Common.{◌≡◌, ℕ, suc, List, Some, refl}
use Rattle.sp_tree.specs.declared.token.Kind.{Kind}
use Rattle.sp_tree.specs.declared.operators.BinaryOp.{BinaryOp}
use Rattle.sp_tree.specs.Grammar as g
use Rattle.sp_tree.specs.Symbols as sym
use Rattle.sp_tree.specs.Symbols.{Symbol}
use Rattle.sp_tree.specs.Table as row
use Rattle.sp_tree.specs.Table.{ConstantRow, PartsRow, SelectorRow, FactorRow, SimpleRow, row_entry, rows, look}

-- the rows are found
pub look_constant : (d : ℕ) {k : Kind} {l : List Symbol} (c : ConstantRow k l)
    → look (rows sym.AConstant) k ≡ Some (row_entry _ _ (row.constant c))
look_constant d row.constant_number = refl
look_constant _ _ = refl

pub look_arm : (d : ℕ) {k : Kind} {l : List Symbol} (c : ConstantRow k l)
    → look (rows (sym.ArmOrEnd d)) k ≡ Some (row_entry _ _ (row.next_arm {d = d} c))
look_arm d row.constant_number = refl
look_arm _ _ = refl

pub look_block : (d : ℕ) {k : Kind} {l : List Symbol} (c : PartsRow (suc d) k l)
    → look (rows (sym.ABlock d)) k ≡ Some (row_entry _ _ (row.block {d = d} c))
look_block d row.parts_begin = refl
look_block _ _ = refl

pub look_parts : (d : ℕ) {k : Kind} {l : List Symbol} (c : PartsRow d k l)
    → look (rows (sym.Parts d)) k ≡ Some (row_entry _ _ (row.parts c))
look_parts d row.parts_begin = refl
look_parts _ _ = refl

pub look_after_constants : (d : ℕ) {k : Kind} {l : List Symbol} (c : PartsRow d k l)
    → look (rows (sym.MoreConstants d)) k ≡ Some (row_entry _ _ (row.after_constants c))
look_after_constants d row.parts_begin = refl
look_after_constants _ _ = refl

pub look_after_types : (d : ℕ) {k : Kind} {l : List Symbol} (c : PartsRow d k l)
    → look (rows (sym.MoreTypes d)) k ≡ Some (row_entry _ _ (row.after_types c))
look_after_types d row.parts_begin = refl
look_after_types _ _ = refl

pub look_after_variables : (d : ℕ) {k : Kind} {l : List Symbol} (c : PartsRow d k l)
    → look (rows (sym.MoreVariables d)) k ≡ Some (row_entry _ _ (row.after_variables c))
look_after_variables d row.parts_begin = refl
look_after_variables _ _ = refl

pub look_target : (d : ℕ) {k : Kind} {l : List Symbol} (c : SelectorRow d k l)
    → look (rows (sym.AfterName d)) k ≡ Some (row_entry _ _ (row.target c))
look_target d row.selector_index = refl
look_target d row.selector_field = refl

pub look_factor : (d : ℕ) {k : Kind} {l : List Symbol} (c : FactorRow d k l)
    → look (rows (sym.AFactor d)) k ≡ Some (row_entry _ _ (row.factor c))
look_factor d row.factor_number = refl
look_factor _ _ = refl

pub look_negated : (d : ℕ) {k : Kind} {l : List Symbol} (c : FactorRow (suc d) k l)
    → look (rows (sym.ANegated d)) k ≡ Some (row_entry _ _ (row.negated {d = d} c))
look_negated d row.factor_number = refl
look_negated _ _ = refl

pub look_term : (d : ℕ) {k : Kind} {l : List Symbol} (c : FactorRow d k l)
    → look (rows (sym.ATerm d)) k ≡ Some (row_entry _ _ (row.term c))
look_term d row.factor_number = refl
look_term _ _ = refl

pub look_simple : (d : ℕ) {k : Kind} {l : List Symbol} (c : SimpleRow d k l)
    → look (rows (sym.ASimple d)) k ≡ Some (row_entry _ _ (row.simple c))
look_simple d row.simple_plus = refl
look_simple d row.simple_minus = refl
look_simple d (row.simple_factor row.factor_number) = refl
look_simple d (row.simple_factor row.factor_text) = refl
look_simple d (row.simple_factor row.factor_name) = refl
look_simple d (row.simple_factor row.factor_open) = refl
look_simple d (row.simple_factor row.factor_not) = refl

pub look_expression : (d : ℕ) {k : Kind} {l : List Symbol} (c : SimpleRow (suc d) k l)
    → look (rows (sym.AnExpression d)) k ≡ Some (row_entry _ _ (row.expression {d = d} c))
look_expression d row.simple_plus = refl
look_expression d row.simple_minus = refl
look_expression d (row.simple_factor row.factor_number) = refl
look_expression d (row.simple_factor row.factor_text) = refl
look_expression d (row.simple_factor row.factor_name) = refl
look_expression d (row.simple_factor row.factor_open) = refl
look_expression d (row.simple_factor row.factor_not) = refl

pub look_relation : (d : ℕ) {k : Kind} {o : BinaryOp} (c : g.IsRelational k o)
    → look (rows (sym.ARelation d)) k ≡ Some (row_entry _ _ (row.relation {d = d} c))
look_relation d g.equal = refl
look_relation _ _ = refl

pub look_adding : (d : ℕ) {k : Kind} {o : BinaryOp} (c : g.IsAdding k o)
    → look (rows (sym.MoreTerms d)) k ≡ Some (row_entry _ _ (row.next_term {d = d} c))
look_adding d g.plus = refl
look_adding d g.minus = refl
look_adding d g.or = refl

pub look_multiplying : (d : ℕ) {k : Kind} {o : BinaryOp} (c : g.IsMultiplying k o)
    → look (rows (sym.MoreFactors d)) k ≡ Some (row_entry _ _ (row.next_factor {d = d} c))
look_multiplying d g.times = refl
look_multiplying d g.quotient = refl
look_multiplying d g.modulo = refl
look_multiplying d g.and = refl
