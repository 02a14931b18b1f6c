-- What each test finds of the definition. No function's proof asks for these laws; the pages name them beside the sentences that they carry.
use mathlib.Core.Path.{◌≡◌, sym}
use mathlib.Core.Bool.{Bool, true, false, not, ◌||◌, and-false, and-true}
use mathlib.Core.List.{List}
use Prim.Native.Nat.{ℕ, ◌*◌, ◌<◌, ◌≤◌}
use borrow.Author.Tests.{le-leb, lt-leb, not-true, not-false}
use Rattle.rules.specs.Prices.{best_bid, best_offer}
use Rattle.rules.specs.Verdicts.{is_block}
use Rattle.prices.specs.Prices.{above_of, BidIs, OfferIs}
use Rattle.through.specs.Trades.{form_of, BlockIs}
use Rattle.through.specs.declared.Trade.{Trade}

-- ---- blocks

module _ (quotes : List ℕ) (exchanges : ℕ) (trade : Trade) where
  pub block_small : trade.size < 500 → BlockIs quotes exchanges trade false
  unfolding is_block
  block_small l = record { so = λ h past k en same held. rw (same.size, lt-leb _ _ l) }

  module _ (big : 500 ≤ trade.size) (v : ℕ) (ev : v ≡ trade.price * trade.size) where
    pub block_cheap : v < 150000 → BlockIs quotes exchanges trade false
    unfolding is_block
    block_cheap l =
        record { so = λ h past k en same held. rw (same.size, same.price, ← ev, le-leb _ _ big, lt-leb _ _ l) }

    module _ (dear : 150000 ≤ v) (g : Bool) (eg : g ≡ form_of trade.form) where
      pub block_formless : not g ≡ true → BlockIs quotes exchanges trade false
      unfolding is_block form_of above_of
      block_formless y =
          record {
            so = λ h past k en same held.
                let w : g ≡ false = not-true g y in
                rw (same.size, same.price, same.form, ← eg, w, ← ev, le-leb _ _ big, le-leb _ _ dear)
                (sym (and-false (above_of (best_bid h k.series past) trade.price || above_of trade.price (best_offer h k.series past))));
          }

      module _ (formed : not g ≡ false) (bb : ℕ) (eb : BidIs quotes exchanges trade.series bb) (b : Bool) (below : b ≡ above_of bb trade.price) where
        pub block_below : b ≡ true → BlockIs quotes exchanges trade true
        unfolding is_block form_of above_of
        block_below y =
            record {
              so = λ h past k en same held.
                  let w : g ≡ true = not-false g formed in
                  rw (same.size, same.price, same.series, same.form, ← eg, w, ← ev, le-leb _ _ big, le-leb _ _ dear, ← eb.so h past en held, ← below, y);
            }

        pub block_above : b ≡ false → (bo : ℕ) → OfferIs quotes exchanges trade.series bo → (r : Bool) → r ≡ above_of trade.price bo → BlockIs quotes exchanges trade r
        unfolding is_block form_of above_of
        block_above y bo eo r er =
            record {
              so = λ h past k en same held.
                  let w : g ≡ true = not-false g formed in
                  rw (same.size, same.price, same.series, same.form, ← eg, w, ← ev, le-leb _ _ big, le-leb _ _ dear, ← eb.so h past en held, ← eo.so h past en held, ← below, y, ← er)
                  (sym (and-true r));
            }
