-- That what is made of a text may go to another thread.
use denote.Param.Send.{IsSend, struct_send, recorded_send, sendable}
use denote.Struct.Declared as s
use Rattle.std.proofs.Crossing.{crosses}
use Rattle.std.proofs.option.Option.TheSendSync as option
use Rattle.std.proofs.vec.Vec.TheSendSync as vec
use Rattle.sp_base.proofs.boxed.Boxed.TheSendSync as boxed
use Rattle.sp_base.proofs.list.List.TheSendSync as list
use Rattle.sp_base.proofs.place.Place.TheSendSync as place
use Rattle.sp_base.proofs.text.Text.TheSendSync as text
use Rattle.sp_tree.proofs.checked.Actual.TheLaws.TheKnot as expressions
use Rattle.sp_tree.proofs.checked.Form.TheLaws.TheKnot as statements
use Rattle.sp_tree.proofs.checked.KindOf.TheSendSync as kind
use Rattle.sp_tree.proofs.checked.Variable.TheSendSync as variable
use Rattle.sp_tree.proofs.operators.BinaryOp.TheSendSync as binary
use Rattle.sp_tree.proofs.operators.StandardFn.TheSendSync as standard
use Rattle.sp_tree.proofs.operators.UnaryOp.TheSendSync as unary
use Rattle.sp_tree.specs.contracts.checked.Checked as Checked
use Rattle.sp_varsets.proofs.sets.Sets.TheSendSync as sets
use Rattle.sp_code.proofs.code.Code.TheSendSync as code
use Rattle.sp_front.specs.contracts.analysis.Accepted as Accepted
use Rattle.sp_lines.proofs.mark.Mark.TheSendSync as mark
use Rattle.sp_front.specs.contracts.marks.MarkedText as MarkedText
use Rattle.sp_front.specs.contracts.to_code.CompiledText as CompiledText

checked_send : IsSend Checked.the_field.row
checked_send = search (
  option.the_field_send,
  option.the_send,
  boxed.the_send,
  list.the_send,
  place.the_field_send,
  text.the_send,
  kind.the_send,
  variable.the_send,
  binary.the_field_send,
  standard.the_field_send,
  unary.the_field_send,
  vec.the_send,
  crosses,
  expressions.crosses,
  statements.crosses,
  sendable,
) depth 60 fits 20000

accepted_send : IsSend Accepted.the_field.row
accepted_send = struct_send (s.shape Accepted.the_type) (checked_send, (sets.the_field_send, tt))

pub compiled_send : IsSend CompiledText.the_row
compiled_send = recorded_send CompiledText.the_field.row _ _ CompiledText.the_type.to_one
    (struct_send (s.shape CompiledText.the_type) (accepted_send, (code.the_send, tt)))

pub marked_send : IsSend MarkedText.the_row
marked_send = recorded_send MarkedText.the_field.row _ _ MarkedText.the_type.to_one
    (search (code.the_send, checked_send, list.the_send, text.the_send, mark.the_field_send, crosses, sendable)
    depth 30 fits 4000)
