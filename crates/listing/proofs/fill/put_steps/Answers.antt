use Rattle.records.proofs.Filling.{room_first, room_next, grown_both}
use Rattle.listing.specs.Offers.{internal_step, send_step, receive_step, listed}
use Rattle.listing.proofs.fill.put_steps.Goals as goal

pub put_each-requires-clause-room : goal.put_each-requires-clause-room
unfolding listed
put_each-requires-clause-room c = (internal_step, λ o s e. e, room_first _ _ _ c.requires)

pub put_meetings-requires : goal.put_meetings-requires
unfolding listed
put_meetings-requires c =
    let internals = c.put_each.ensures internal_step (λ o s e. e) (room_first _ _ _ c.requires) in
    room_first _ _ _ (room_next _ _ _ _ c.requires internals)

pub put_each-requires-2-clause-room : goal.put_each-requires-2-clause-room
unfolding listed
put_each-requires-2-clause-room c =
    let internals = c.put_each.ensures internal_step (λ o s e. e) (room_first _ _ _ c.requires) in
    let left = room_next _ _ _ _ (room_next _ _ _ _ c.requires internals) c.put_meetings.ensures in
    (send_step c.args.arrivals.now.channels, λ o s e. e, room_first _ _ _ left)

pub put_each-requires-3-clause-room : goal.put_each-requires-3-clause-room
unfolding listed
put_each-requires-3-clause-room c =
    let internals = c.put_each.ensures internal_step (λ o s e. e) (room_first _ _ _ c.requires) in
    let left = room_next _ _ _ _ (room_next _ _ _ _ c.requires internals) c.put_meetings.ensures in
    let sends = c.put_each-2.ensures (send_step c.args.arrivals.now.channels) (λ o s e. e) (room_first _ _ _ left) in
    (receive_step c.args.arrivals.now.channels, λ o s e. e, room_next _ _ _ _ left sends)

pub returns : goal.returns
unfolding listed
returns c =
    let internals = c.put_each.ensures internal_step (λ o s e. e) (room_first _ _ _ c.requires) in
    let left = room_next _ _ _ _ (room_next _ _ _ _ c.requires internals) c.put_meetings.ensures in
    let sends = c.put_each-2.ensures (send_step c.args.arrivals.now.channels) (λ o s e. e) (room_first _ _ _ left) in
    let receives = c.put_each-3.ensures (receive_step c.args.arrivals.now.channels) (λ o s e. e) (room_next _ _ _ _ left sends) in
    grown_both _ _ _ _ _ internals (grown_both _ _ _ _ _ c.put_meetings.ensures (grown_both _ _ _ _ _ sends receives))
