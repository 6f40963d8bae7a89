use Rattle.std.proofs.Common.{sym, ◌∙◌, ap}
use Rattle.std.specs.Prelude.{position}
use Rattle.dbuf_state.specs.Pins.{unpinned}
use Rattle.dbuf_state.proofs.Places.{is_of, place-some, unpinned-at, unpinned-none}
use Rattle.dbuf_state.proofs.pins.Pins.take.Goals as goal

pub returns-in_default : goal.returns-in_default
returns-in_default c =
    sym c.self.view_is
    ∙ (unpinned-none c.args.n c.self.inside.counts.items (ap (position (is_of c.args.n)) (sym c.deref.ensures.value) ∙ (sym c.place_of.ensures ∙ c.in_default.is))
    ∙ ap (unpinned c.args.n) c.self.view_is)

pub lower-requires : goal.lower-requires
lower-requires c = (place-some (is_of c.args.n) c.self.inside.counts.items c.in-Some.i (ap (position (is_of c.args.n)) (sym c.deref.ensures.value) ∙ (sym c.place_of.ensures ∙ c.in-Some.is))).within

pub returns : goal.returns
returns c =
    unpinned-at c.args.n c.self.inside.counts.items c.lower.new.counts.items c.in-Some.i
    (ap (position (is_of c.args.n)) (sym c.deref.ensures.value) ∙ (sym c.place_of.ensures ∙ c.in-Some.is)) c.lower.ensures
    ∙ ap (unpinned c.args.n) c.self.view_is
