use Rattle.std.proofs.Common.{sym, ◌∙◌}
use Rattle.arc_table.proofs.Standings.{digest_other, digest_same, shown_digest, shown_missing, shown_reader, shown_resident}
use Rattle.arc_table.proofs.hits.standing_of.Goals as goal

pub returns-in-Some-reader : goal.returns-in-Some-reader
returns-in-Some-reader c s sound shown = shown_reader c.args.ptr.key s c.in-Some.entry c.in-Some-reader.owner (sym c.in-Some.is ∙ shown) c.in-Some-reader.is

pub returns-then-not-is_cached : goal.returns-then-not-is_cached
returns-then-not-is_cached c s sound shown = shown_missing c.args.ptr.key s c.in-Some.entry sound (sym c.in-Some.is ∙ shown) c.in_default-reader.is (sym c.is_cached.ensures ∙ c.if-not-is_cached.true)

pub returns-in_default-digest : goal.returns-in_default-digest
returns-in_default-digest c s sound shown =
    absurd (shown_digest c.args.ptr.key s c.in-Some.entry sound (sym c.in-Some.is ∙ shown) c.in_default-reader.is (sym c.is_cached.ensures ∙ c.if-not-is_cached.false) c.in_default-digest.is)

pub returns-then-eq : goal.returns-then-eq
returns-then-eq c s sound shown =
    shown_resident c.args.ptr.key s c.in-Some.entry sound (sym c.in-Some.is ∙ shown) c.in_default-reader.is c.in-Some-digest.kept c.args.ptr.digest (sym c.is_cached.ensures ∙ c.if-not-is_cached.false) c.in-Some-digest.is (sym c.eq.ensures ∙ c.if-eq.true)

pub returns : goal.returns
returns c s sound shown = (
  digest_other c.in-Some-digest.kept c.args.ptr.digest (sym c.eq.ensures ∙ c.if-eq.false),
  shown_resident c.args.ptr.key s c.in-Some.entry sound (sym c.in-Some.is ∙ shown) c.in_default-reader.is c.in-Some-digest.kept c.in-Some-digest.kept (sym c.is_cached.ensures ∙ c.if-not-is_cached.false) c.in-Some-digest.is (digest_same c.in-Some-digest.kept),
)
