use Rattle.session.proofs.Reading.{room_behind}
use Rattle.session.proofs.operands.budget_room.Goals as goal

pub returns-in_err-room : goal.returns-in_err-room
returns-in_err-room c = rw c.from_residual-in_err-room.ensures (λ budget room h. c.in_err-room.ensures room (room_behind c.args.words.now budget room h))
