-- Events after which the header of their key is brought up to its entry: what the entry keeps but its state and place.
use Rattle.std.proofs.Common.{◌≡◌, ◌==◌, ℕ, [], ◌∷◌, ◌++◌, Bool, true, false, Option, Some, None, refl, sym, ap, ◌∙◌, subst}
use Rattle.std.specs.Prelude.{IsTrue}
use Rattle.std.specs.Option.{option_map, option_map_or}
use Rattle.std.proofs.lemmas.Option.{none-some}
use Rattle.blk_ptr.specs.declared.key.Key.{Key}
use Rattle.arc_core.specs.declared.config.Config.{Config}
use Rattle.arc_core.specs.Config.{IsConfig}
use Rattle.arc_core.specs.declared.entry.Entry.{Entry}
use Rattle.arc_core.specs.declared.event.Event.{Event}
use Rattle.arc_core.specs.declared.event.Event.TheVariants.{Release}
use Rattle.arc_core.specs.Changes.{one_less}
use Rattle.arc_core.specs.Operations.{event_key}
use Rattle.arc_core.specs.PlainShard.{PlainShard, entry_of, holds_of, is_resident}
use Rattle.arc_core.specs.ShardLog.{ShardLog}
use Rattle.arc_core.specs.Sound.{IsSound}
use Rattle.arc_core.specs.Step.{after, legal}
use Rattle.arc_core.proofs.Others.{own-entry}
use Rattle.hash_chain.specs.Chain.{Chain, header_at}
use Rattle.hash_chain.specs.declared.header.Header.{Header}
use Rattle.turn_table.specs.Places.{Place}
use Rattle.arc_table.specs.declared.both.Both.{Both}
use Rattle.arc_table.specs.declared.view.Known.{Known}
use Rattle.arc_table.specs.Geometry.{shard_turn}
use Rattle.arc_table.specs.pact.Headed.{IsHead, Says}
use Rattle.arc_table.specs.InHand.{made_since}
use Rattle.arc_table.specs.Items.{Meanings}
use Rattle.arc_table.specs.Making.{IsMade, IsTaken}
use Rattle.arc_table.specs.ShardGiving.{IsActor}
use Rattle.arc_table.specs.pact.Standing.{Follows, followed}
use Rattle.arc_table.proofs.reads.HitEvents.{head_there, says_changed}
use Rattle.arc_table.proofs.OneEvent.{is_lone, one_made, some_is, taken_head}

-- the entry f is e with another state and place, and other holds
pub record IsLike (e f : Entry) : Type 0 where
  pub key : f.key ≡ e.key
  pub reading : f.reading ≡ e.reading
  pub digest : f.digest ≡ e.digest
  pub resident : is_resident f ≡ is_resident e

-- an entry that is like the one before, if there is one
abbrev pub IsLikeIf : Entry → Option Entry → Type 0
IsLikeIf e o = (f : Entry) → o ≡ Some f → IsLike e f

pub like_some : (e f : Entry) → IsLike e f → IsLikeIf e (Some f)
like_some e f like x is = subst (IsLike e) (some_is f x is) like

pub like_none : (e : Entry) → IsLikeIf e None
like_none e x is = absurd (none-some x is)

any_head : (e : Entry) (h : Header) (o : Option Entry) → Says e h → IsLikeIf e o → IsHead o (followed h o)
any_head e h None says like = tt
any_head e h (Some f) says like = let l = like f refl in says_changed e f h says l.key l.reading l.digest l.resident

-- the key's entry is there
there_is : (o : Option Entry) (h : Option Header) (x : Header) → IsHead o h → h ≡ Some x → (e : Entry) × (o ≡ Some e) × Says e x
there_is None None x head is = absurd (none-some x is)
there_is None (Some h) x head is = absurd head
there_is (Some e) None x head is = absurd head
there_is (Some e) (Some h) x head is = (e, refl, subst (Says e) (some_is h x is) head)

module _ {C : Type 0} (m : Meanings C) (g : Config) (k : Key) (b : Both) (q : Place (Known C)) (taken : IsTaken m g k b q) (same : q.own.about.config ≡ g) (valid : IsConfig g) where
  pub follow_made : (e : Event) (l : ShardLog) (given : Chain) → is_lone e ≡ true → event_key e ≡ Some k → IsTrue (legal b.shard.now e)
      → l.now ≡ after b.shard.now e → l.history ≡ b.shard.history ++ e ∷ [] → l.opening ≡ b.shard.opening → IsActor g q.number q.held (shard_turn g k) e
      → ((x : Entry) → entry_of k b.shard.now ≡ Some x → IsLikeIf x (entry_of k (after b.shard.now e))) → Follows k l.now b.hand.own.bucket.headers given.headers
      → IsMade m g k (made_since b.hand.before.value l) record { hand = record b.hand { own = record b.hand.own { bucket = given } }; turn = b.turn; shard = l } q
  follow_made e l given lone about ok now history opening actor like f =
      let x = there_is (entry_of k b.shard.now) (header_at k b.hand.own.bucket.headers) f.header (taken_head m g k b q taken same valid) f.had in
      one_made m g k b q taken same valid e record { hand = record b.hand { own = record b.hand.own { bucket = given } }; turn = b.turn; shard = l } (followed f.header (entry_of k l.now))
      refl refl (refl, refl) lone about ok now history opening actor f.with
      (any_head x.0 f.header (entry_of k l.now) x.2 (subst (IsLikeIf x.0) (ap (entry_of k) (sym now)) (like x.0 x.1)))

  -- the header is there where the entry is
  pub header_there : (x : Entry) → entry_of k b.shard.now ≡ Some x → (h : Header) × (header_at k b.hand.own.bucket.headers ≡ Some h)
  header_there x there = let h = head_there (entry_of k b.shard.now) (header_at k b.hand.own.bucket.headers) x (taken_head m g k b q taken same valid) there in (h.0, h.1)

-- ---- what each of these events makes of the entry

less_like : (n : ℕ) (e : Entry) → IsLike e (one_less n e)
less_like n e = record { key = refl; reading = refl; digest = refl; resident = refl }

pub release_like : (n : ℕ) (k : Key) (sole : Bool) (s : PlainShard) → IsSound s → IsTrue (legal s (Release n k sole)) → (x : Entry) → entry_of k s ≡ Some x → IsLikeIf x (entry_of k (after s (Release n k sole)))
release_like n k true s sound ok x there = subst (IsLikeIf x) (sym (own-entry s (Release n k true) k sound ok refl)) (like_none x)
release_like n k false s sound ok x there = subst (IsLikeIf x) (sym (own-entry s (Release n k false) k sound ok refl ∙ ap (option_map (one_less n)) there)) (like_some x (one_less n x) (less_like n x))

pub sole_is : (k : Key) (s : PlainShard) (x : Entry) (sole : Bool) → entry_of k s ≡ Some x → sole ≡ option_map_or (λ e. holds_of e == 1) (entry_of k s) false → sole ≡ (holds_of x == 1)
sole_is k s x sole there is = is ∙ ap (λ (o : Option Entry). option_map_or (λ e. holds_of e == 1) o false) there
