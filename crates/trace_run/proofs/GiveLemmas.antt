-- All that is kept is given back: what was done, and what is seen of it.
use Rattle.std.proofs.Common.{◌≡◌, ℕ, ◌==◌, true, false, List, [], ◌∷◌, ◌++◌, map, Option, Some, None, if◌then◌else◌, refl, sym, ap, ◌∙◌, subst, inl, inr, eq-eqb, ne_eqb, append_assoc, append-nil}
use Rattle.std.specs.Option.{option_map_or}
use Rattle.arc_lists.proofs.Tables.{cases_true}
use mathlib.Core.Logic.{dite}
use native.Mathlib.Decide.{ℕ_discrete}
use Rattle.blk_ptr.specs.declared.key.Key.{Key}
use Rattle.blk_ptr.specs.Hash.{shard_of}
use Rattle.arc_core.specs.declared.config.Config.{Config}
use Rattle.arc_core.specs.declared.event.Event.{Event}
use Rattle.arc_core.specs.Operations.{Act}
use Rattle.turn_table.specs.Places.{Place}
use Rattle.arc_table.specs.declared.view.Known.{Known}
use Rattle.arc_table.specs.Cache.{Cache}
use Rattle.arc_table.specs.Fronts.{front_of}
use Rattle.arc_table.specs.Items.{Meanings}
use Rattle.trace_run.specs.KeptReads.{KeptRead}
use Rattle.trace_run.specs.declared.kept_blocks.KeptBlock.{KeptBlock}
use Rattle.trace_run.specs.one_caller.Access.{events_of_drop}
use Rattle.trace_run.specs.Acts.{acts_of_drop, acts_of_drops}
use Rattle.trace_run.specs.KeptBlocks.{DroppedAlone, Drops, GivesAll, GivesKeptBack, Stands, held_key, held_in_shard, read_of}
use Rattle.trace_run.specs.one_caller.OneCaller.{events_of_drops}
use Rattle.arc_table.specs.Seen.{HasAll, seen_of, turn_of}
use Rattle.trace_run.specs.Deeds.{HasToldAll, Noted, KeepsCells}
use Rattle.trace_run.proofs.CellsLeft.{LeavesCells, leaves-same, leaves-then}
use Rattle.trace_run.proofs.KeptBlockLemmas.{KeepsJoined, given-drops, given-keeps, given-leaves, given-stands, keeps-same}
use Rattle.trace_run.proofs.callers.MeetLemmas.{starts-then}
use Rattle.trace_run.proofs.deeds.MakesLemmas.{keeps-none, keeps-then}

module _ {C : Type 0} (g : Config) (p q : Place (Known C)) where
  drop-number : (o : Option Key) → Drops g o p q → q.number ≡ p.number
  drop-number None is = ap (λ (x : Place (Known C)). x.number) is
  drop-number (Some k) adds = adds.number

  drop-told : (o : Option Key) → Drops g o p q → (before : List Act) (noted : List Noted) → HasToldAll g before noted p → HasToldAll g (before ++ acts_of_drop p.number o) noted q
  drop-told None is before noted told = subst (λ (x : List Act × Place (Known C)). HasToldAll g x.0 noted x.1) (λ h. (sym (append-nil before) h, sym is h)) told
  drop-told (Some k) adds before noted told = adds.told before noted told

  drop-all : (o : Option Key) → Drops g o p q → HasAll p → HasAll q
  drop-all None is all = subst HasAll (sym is) all
  drop-all (Some k) adds all = adds.all all

  drop-keeps : (o : Option Key) → Drops g o p q → KeepsCells g p q
  drop-keeps None is = subst (KeepsCells g p) (sym is) (keeps-none g p)
  drop-keeps (Some k) adds = adds.keeps

  -- what a read that is given back adds to a shard
  drop-seen : (o : Option Key) → Drops g o p q → HasAll p → (shard : ℕ)
      → seen_of g shard q ≡ seen_of g shard p ++ (if option_map_or (λ k. shard_of g.shards k == shard) o false then events_of_drop p.number o else [])
  drop-seen None is all shard = ap (λ (x : Place (Known C)). seen_of g shard x) is ∙ sym (append-nil (seen_of g shard p))
  drop-seen (Some k) adds all shard = dite (ℕ_discrete (shard_of g.shards k) shard)
      (λ same.
      let test : (shard_of g.shards k == shard) ≡ true = eq-eqb (shard_of g.shards k) shard same in
      rw test (subst (λ (n : ℕ). seen_of g n q ≡ seen_of g n p ++ events_of_drop p.number (Some k)) same (adds.alone all).here))
      (λ differs.
      let test : (shard_of g.shards k == shard) ≡ false = ne_eqb (shard_of g.shards k) shard differs in
      rw test ((adds.alone all).others shard (λ e. differs (sym e)) ∙ sym (append-nil (seen_of g shard p))))

-- the drops of one read, and then of others, in a shard
drops-cons : (g : Config) (n shard : ℕ) (read : KeptRead) (reads : List KeptRead)
    → events_of_drops n (held_in_shard g shard (read ∷ reads))
    ≡ (if option_map_or (λ k. shard_of g.shards k == shard) read.held false then events_of_drop n read.held else []) ++ events_of_drops n (held_in_shard g shard reads)
drops-cons g n shard read reads = elim (cases_true (option_map_or (λ k. shard_of g.shards k == shard) read.held false)) [
  | inl here ↦ rw here refl
  | inr out ↦ rw out refl
]

module _ {C : Type 0} (m : Meanings C) (cache : Cache) where
  abbrev g : Config
  g = cache.config

  step : (b : KeptBlock) (bs : List KeptBlock) (p r : Place (Known C)) → Stands cache p (b ∷ bs) → GivesKeptBack m g b.kept p r → Stands cache r bs × Drops g (held_key b.kept) p r
  step b bs p r stands gives = (given-stands m cache p r [] bs b stands b.kept refl gives, given-drops m cache p r [] bs b stands b.kept refl gives)

  pub all-stand : (kept : List KeptBlock) (p q : Place (Known C)) → Stands cache p kept → GivesAll m g kept p q → Stands cache q []
  all-stand [] p q stands is = subst (λ (x : Place (Known C)). Stands cache x []) (sym is) stands
  all-stand (b ∷ bs) p q stands gives = all-stand bs gives.0 q (step b bs p gives.0 stands gives.1).0 gives.2

  pub all-keep : (kept : List KeptBlock) (p q : Place (Known C)) → Stands cache p kept → GivesAll m g kept p q → KeepsJoined g p q
  all-keep [] p q stands is = keeps-same g p q is
  all-keep (b ∷ bs) p q stands gives =
      let r = gives.0 in
      let one = given-keeps m cache p r [] bs b stands b.kept refl gives.1 in
      let rest = all-keep bs r q (step b bs p r stands gives.1).0 gives.2 in
      (rest.0 ∙ one.0, λ i. starts-then (front_of (turn_of g i) q.own.seen) (front_of (turn_of g i) r.own.seen) (front_of (turn_of g i) p.own.seen) (rest.1 i) (one.1 i))

  -- cells are left as they were
  pub all-leave : (kept : List KeptBlock) (p q : Place (Known C)) → Stands cache p kept → GivesAll m g kept p q → LeavesCells g p q
  all-leave [] p q stands is = leaves-same g p q is
  all-leave (b ∷ bs) p q stands gives =
      let r = gives.0 in
      leaves-then g p r q (given-leaves m cache.config stands.valid p r stands.of.config b.kept gives.1) (all-leave bs r q (step b bs p r stands gives.1).0 gives.2)

  pub all-number : (kept : List KeptBlock) (p q : Place (Known C)) → Stands cache p kept → GivesAll m g kept p q → q.number ≡ p.number
  all-number [] p q stands is = ap (λ (x : Place (Known C)). x.number) is
  all-number (b ∷ bs) p q stands gives =
      let one = step b bs p gives.0 stands gives.1 in
      all-number bs gives.0 q one.0 gives.2 ∙ drop-number g p gives.0 (held_key b.kept) one.1

  pub all-keeps : (kept : List KeptBlock) (p q : Place (Known C)) → Stands cache p kept → GivesAll m g kept p q → KeepsCells g p q
  all-keeps [] p q stands is = subst (KeepsCells g p) (sym is) (keeps-none g p)
  all-keeps (b ∷ bs) p q stands gives =
      let one = step b bs p gives.0 stands gives.1 in
      keeps-then g p gives.0 q (drop-keeps g p gives.0 (held_key b.kept) one.1) (all-keeps bs gives.0 q one.0 gives.2)

  pub all-told : (kept : List KeptBlock) (p q : Place (Known C)) → Stands cache p kept → GivesAll m g kept p q → (before : List Act) (noted : List Noted) → HasToldAll g before noted p → HasToldAll g (before ++ acts_of_drops p.number (map read_of kept)) noted q
  all-told [] p q stands is before noted told = subst (λ (x : List Act × Place (Known C)). HasToldAll g x.0 noted x.1) (λ h. (sym (append-nil before) h, sym is h)) told
  all-told (b ∷ bs) p q stands gives before noted told =
      let r = gives.0 in
      let one = step b bs p r stands gives.1 in
      let number : r.number ≡ p.number = drop-number g p r (held_key b.kept) one.1 in
      let rest = all-told bs r q one.0 gives.2 (before ++ acts_of_drop p.number (held_key b.kept)) noted (drop-told g p r (held_key b.kept) one.1 before noted told) in
      subst (λ (l : List Act). HasToldAll g l noted q)
      (append_assoc before (acts_of_drop p.number (held_key b.kept)) (acts_of_drops r.number (map read_of bs))
      ∙ ap (λ (n : ℕ). before ++ (acts_of_drop p.number (held_key b.kept) ++ acts_of_drops n (map read_of bs))) number)
      rest

  pub all-alone : (kept : List KeptBlock) (p q : Place (Known C)) → Stands cache p kept → GivesAll m g kept p q → HasAll p → DroppedAlone g (map read_of kept) p q
  all-alone [] p q stands is all = record {
    all = subst HasAll (sym is) all;
    seen = λ shard. ap (λ (x : Place (Known C)). seen_of g shard x) is ∙ sym (append-nil (seen_of g shard p));
  }
  all-alone (b ∷ bs) p q stands gives all =
      let r = gives.0 in
      let one = step b bs p r stands gives.1 in
      let number : r.number ≡ p.number = drop-number g p r (held_key b.kept) one.1 in
      let rest = all-alone bs r q one.0 gives.2 (drop-all g p r (held_key b.kept) one.1 all) in
      record {
        all = rest.all;
        seen = λ shard.
            let here : List Event = if option_map_or (λ k. shard_of g.shards k == shard) (held_key b.kept) false then events_of_drop p.number (held_key b.kept) else [] in
            let later : List Event = events_of_drops p.number (held_in_shard g shard (map read_of bs)) in
            rest.seen shard
            ∙ (ap (λ (n : ℕ). seen_of g shard r ++ events_of_drops n (held_in_shard g shard (map read_of bs))) number
            ∙ (ap (λ (l : List Event). l ++ later) (drop-seen g p r (held_key b.kept) one.1 all shard)
            ∙ (append_assoc (seen_of g shard p) here later
            ∙ ap (λ (l : List Event). seen_of g shard p ++ l) (sym (drops-cons g p.number shard (read_of b) (map read_of bs))))));
      }
