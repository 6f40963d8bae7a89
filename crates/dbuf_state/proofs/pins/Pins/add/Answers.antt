use Rattle.std.proofs.Common.{sym, ◌∙◌, ap}
use Rattle.std.specs.Prelude.{position}
use Rattle.dbuf_state.specs.Pins.{pinned}
use Rattle.dbuf_state.proofs.Places.{is_of, pinned-new, pinned-there}
use Rattle.dbuf_state.proofs.pins.Pins.add.Goals as goal

pub returns-in_ok-pin-in-Some-clause-ok : goal.returns-in_ok-pin-in-Some-clause-ok
returns-in_ok-pin-in-Some-clause-ok c =
    pinned-there c.args.n c.self.inside.counts.items c.in-Some.i c.in_ok-pin-in-Some.field-0 c.index_mut-pin.result.now
    (ap (position (is_of c.args.n)) (sym c.deref.ensures.value) ∙ (sym c.place_of.ensures ∙ c.in-Some.is)) c.index_mut-pin.ensures.value c.in_ok-pin-in-Some.ensures
    ∙ ap (pinned c.args.n) c.self.view_is

pub returns-in_ok-push-in-None-clause-ok : goal.returns-in_ok-push-in-None-clause-ok
returns-in_ok-push-in-None-clause-ok c =
    c.in_ok-push-in-None.ensures.items
    ∙ (pinned-new c.args.n c.self.inside.counts.items (ap (position (is_of c.args.n)) (sym c.deref.ensures.value) ∙ (sym c.place_of.ensures ∙ c.in-None.is))
    ∙ ap (pinned c.args.n) c.self.view_is)
