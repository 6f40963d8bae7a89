-- Shard after shard.
use Rattle.std.proofs.Common.{◌≡◌, ◌≢◌, ℕ, zero, suc, ◌+◌, ◌<◌, List, [], ◌++◌, inl, inr, refl, sym, ap, ◌∙◌, subst, arith, append-nil, append_assoc}
use Rattle.vdev_io.specs.Calls.{DeviceCall}
use Rattle.l2_dev.specs.declared.report.FeedStop.{FeedStop}
use Rattle.l2_dev.specs.declared.report.FeedStop.TheVariants as stop
use Rattle.l2_dev.specs.Cursor.{CursorState}
use Rattle.l2_feed.specs.Acts.{Act}
use Rattle.l2_feed.specs.Shape.{AreFed, FedShard}

-- what was fed so far, and one shard more
pub fed_last : (s n t : ℕ) (old mid new : CursorState) (acts more : List Act) (calls then : List DeviceCall) → t ≡ s + n → AreFed s n old mid acts calls stop.Done → FedShard t mid new more then stop.Done
    → AreFed s (suc n) old new (acts ++ more) (calls ++ then) stop.Done
fed_last s zero t old mid new acts more calls then at fed one =
    let is : t ≡ s = at ∙ (let e : s + 0 ≡ s = omega arith in e) in
    inr (
      more,
      [],
      new,
      then,
      [],
      ap (λ (l : List Act). l ++ more) fed.0 ∙ sym (append-nil more),
      ap (λ (l : List DeviceCall). l ++ then) fed.3 ∙ sym (append-nil then),
      subst (λ (x : ℕ × CursorState). FedShard x.0 x.1 new more then stop.Done) (λ i. (is i, fed.1 i)) one,
      (refl, refl, refl, refl),
    )
fed_last s (suc n) t old mid new acts more calls then at (inl ended) one = absurd (ended.0 refl)
fed_last s (suc n) t old mid new acts more calls then at (inr fed) one =
    inr (
      fed.0,
      fed.1 ++ more,
      fed.2,
      fed.3,
      fed.4 ++ then,
      ap (λ (l : List Act). l ++ more) fed.5 ∙ append_assoc fed.0 fed.1 more,
      ap (λ (l : List DeviceCall). l ++ then) fed.6 ∙ append_assoc fed.3 fed.4 then,
      fed.7,
      fed_last (suc s) n t fed.2 mid new fed.1 more fed.4 then (at ∙ (let e : s + suc n ≡ suc s + n = omega arith in e)) fed.8 one,
    )

-- and one shard where the feed ends
pub fed_stop : (s n t total : ℕ) (old mid new : CursorState) (acts more : List Act) (calls then : List DeviceCall) (end : FeedStop) → t ≡ s + n → n < total → end ≢ stop.Done → AreFed s n old mid acts calls stop.Done
    → FedShard t mid new more then end → AreFed s total old new (acts ++ more) (calls ++ then) end
fed_stop s n t zero old mid new acts more calls then end at below ends fed one = absurd (omega arith)
fed_stop s zero t (suc total) old mid new acts more calls then end at below ends fed one =
    let is : t ≡ s = at ∙ (let e : s + 0 ≡ s = omega arith in e) in
    subst (λ (x : List Act × List DeviceCall). AreFed s (suc total) old new x.0 x.1 end) (λ i. (ap (λ (l : List Act). l ++ more) (sym fed.0) i, ap (λ (l : List DeviceCall). l ++ then) (sym fed.3) i))
    (inl (ends, subst (λ (x : ℕ × CursorState). FedShard x.0 x.1 new more then end) (λ i. (is i, fed.1 i)) one))
fed_stop s (suc n) t (suc total) old mid new acts more calls then end at below ends (inl ended) one = absurd (ended.0 refl)
fed_stop s (suc n) t (suc total) old mid new acts more calls then end at below ends (inr fed) one =
    inr (
      fed.0,
      fed.1 ++ more,
      fed.2,
      fed.3,
      fed.4 ++ then,
      ap (λ (l : List Act). l ++ more) fed.5 ∙ append_assoc fed.0 fed.1 more,
      ap (λ (l : List DeviceCall). l ++ then) fed.6 ∙ append_assoc fed.3 fed.4 then,
      fed.7,
      fed_stop (suc s) n t total fed.2 mid new fed.1 more fed.4 then end (at ∙ (let e : s + suc n ≡ suc s + n = omega arith in e)) (omega arith) ends fed.8 one,
    )
