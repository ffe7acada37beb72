-- The kernel, a seat of its room and the room may go to another thread. What a kernel is made of is so too.
use denote.Param.Send.{IsSend, IsSync, struct_send, enum_send, recorded_send, sendable}
use denote.Struct.Declared as s
use denote.Enum.Declared as e
use Rattle.std.proofs.Crossing.{crosses, Arc-send}
use Rattle.sp_base.proofs.list.List.TheSendSync as list
use Rattle.sp_base.proofs.limits.Limits.TheSendSync as limits
use Rattle.sp_cell.proofs.cell.Cell.TheSendSync as cell
use Rattle.sp_code.proofs.code.Code.TheSendSync as code
use Rattle.sp_channel.proofs.channels.Channels.TheSendSync as channels
use Rattle.sp_journal.proofs.entry.Journal.TheSendSync as journal
use Rattle.sp_journal.proofs.entry.Note.TheSendSync as note
use Rattle.sp_machine.proofs.proc.Proc.TheSendSync as proc
use Rattle.sp_kernel.specs.contracts.slot.State as State
use Rattle.sp_kernel.specs.contracts.slot.Slot as Slot
use Rattle.sp_kernel.specs.contracts.ready_queue.ReadyQueue as ReadyQueue
use Rattle.sp_kernel.specs.contracts.kernel.Kernel as Kernel
use Rattle.sp_kernel.specs.contracts.ask.Ask as Ask
use Rattle.sp_kernel.specs.contracts.ask.Got as Got
use Rattle.sp_journal.specs.contracts.entry.Note as Note
use Rattle.sp_kernel.specs.contracts.serve.KernelKept.TheImpl as Kept
use Rattle.sp_room.specs.contracts.seat.RoomSeat as RoomSeat
use Rattle.sp_room.specs.contracts.seat.Room as Room
use Rattle.sp_room.proofs.seat.Room.TheSendSync as room
use Rattle.std.below.core.specs.contracts.clone.Clone+copy.TheImpl as Copy
use Rattle.sp_room.proofs.seat.RoomSeat.TheSendSync as seat

pub note_send : IsSend Rattle.sp_journal.specs.contracts.entry.Note.the_row
note_send = note.the_send

state_field_send : IsSend State.the_field.row
state_field_send = search (sendable, crosses, list.the_send, cell.the_send) depth 40

slot_send : IsSend Slot.the_row
slot_send = recorded_send Slot.the_field.row _ _ Slot.the_type.to_one (enum_send (e.shape Slot.the_type) (
  (proc.the_send, (state_field_send, tt)),
  ((search sendable, (search crosses, tt)), (tt, ((search crosses, tt), tt))),
))

line_send : IsSend ReadyQueue.the_row
line_send = search (sendable, crosses) depth 40

parent_send : IsSend (Rattle.std.specs.contracts.option.Option.the_row denote.Builtin.u32)
parent_send = search (sendable, crosses) depth 40

pub kernel_send : IsSend Kernel.the_row
kernel_send = recorded_send Kernel.the_field.row _ _ Kernel.the_type.to_one (struct_send (s.shape Kernel.the_type) (
  list.the_send _ slot_send,
  (
    list.the_send _ parent_send,
    (
      line_send,
      (
        search sendable,
        (
          channels.the_send,
          (
            journal.the_field_send,
            (
              search sendable,
              (
                search sendable,
                (
                  search sendable,
                  (
                    Arc-send _ code.the_send code.the_sync,
                    (limits.the_field_send, (search crosses, tt)),
                  ),
                ),
              ),
            ),
          ),
        ),
      ),
    ),
  ),
))

pub seat_send : IsSend (RoomSeat.the_row Kernel.the_row Ask.the_row Got.the_row Note.the_row Kept.ghosts)
seat_send = seat.the_send Kernel.the_row Ask.the_row Got.the_row Note.the_row Kept.ghosts kernel_send note_send

pub room_sync : IsSync (Room.the_row Kernel.the_row Ask.the_row Got.the_row Note.the_row Kept.ghosts
    (Copy.ghosts Note.the_row))
room_sync = room.the_sync Kernel.the_row Ask.the_row Got.the_row Note.the_row Kept.ghosts (Copy.ghosts Note.the_row)
    kernel_send note_send
