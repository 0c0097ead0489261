-- The next record of a book where it is a fill.
use Rattle.std.specs.Prelude.{Ok, Err, None, Some}
use lib.ListN.{set}
use Rattle.std.proofs.Common.{ℕ, ◌≡◌, ◌<◌, ◌+◌, ◌/◌, true, List, [], length, refl, sym, ap, ◌∙◌, arith}
use Rattle.records.specs.Chunks.{chunk_at}
use Rattle.records.specs.Legs.{in_range}
use Rattle.records.specs.Order.{first_of, refuse}
use Rattle.records.specs.Tables.{good_unpaid}
use Rattle.records.specs.declared.legs.Leg.{Leg}
use Rattle.records.specs.declared.tables.Kind.TheVariants.{Holdings}
use Rattle.records.proofs.LegLaws.{paid_range}
use Rattle.records.proofs.TableLaws.{record_good}
use Rattle.fills.specs.Calls.{ask_past, rows_played, refused_in}
use Rattle.fills.specs.Fills.{action_of, plain_of, fill_leg}
use Rattle.fills.specs.Played.{open_number, number_over, rows_after}
use Rattle.fills.specs.Rows.{held_of, opened, merged_rows, starting_legs, unmarked}
use Rattle.fills.specs.Steps.Book.{next_leg, standing, opening_number, closing_number, rows_opened, rows_closed, Gone, GoneOver, AllPlayed, refused_of}
use Rattle.fills.specs.Steps.Links.{most_records}
use Rattle.fills.specs.Steps.Standing.{rows_of, refused_with}
use Rattle.fills.specs.declared.book.Book.{Book}
use Rattle.fills.proofs.FillLaws.{good_range, plain_record, leg_start, leg_fill, open_fill, close_fill}
use Rattle.fills.proofs.MergeLaws.{Merging, merging_none, merging_more, merging_stop, merging_all, merging_over}
use Rattle.fills.proofs.PlayLaws.{Tabled, tables_clear, Playing, playing_none, playing_more, playing_refused, playing_rows}

module _ (b : Book) (i : ℕ) (next : b.gone ≡ length b.holdings.now / 32 + i) (below : i < length b.fills.now / 32) where
  abbrev fill : List ℕ
  fill = chunk_at 32 b.fills.now i

  leg_is : next_leg b ≡ fill_leg fill
  leg_is = rw next (leg_fill b.holdings.now b.fills.now i below)

  pub fill_room : b.gone < most_records
  fill_room = let t = tables_clear b.holdings.now b.fills.now b.tables in omega (arith, t.torn, t.fills)

  module _ (good : good_unpaid (plain_of fill) ≡ true) where
    pub fill_in_range : in_range 0 (next_leg b) ≡ true
    fill_in_range = rw leg_is (good_range (plain_of fill) (plain_record _ good))

    pub fill_opened : action_of fill ≡ 1 → (number_over (standing b) fill ≡ opening_number b) × (rows_after (standing b) fill ≡ rows_opened b)
    fill_opened a = rw (leg_is, ← b.stand.count) (open_fill fill (standing b) good a)

    pub fill_closed : action_of fill ≡ 2 → (number_over (standing b) fill ≡ closing_number b) × (rows_after (standing b) fill ≡ rows_closed b)
    fill_closed a = rw leg_is (close_fill fill (standing b) good a)

-- ---- the loop over the starting table: of the same tables the first records are gone over, and merged

pub record Started (first now : Book) (i : ℕ) : Type 0 where
  pub left : List Leg
  pub gone : Gone first now i left
  pub merging : Merging first.holdings.now left i

pub started_none : (b : Book) → b.gone ≡ 0 → Started b b 0
unfolding rows_of
started_none b z = record { left = []; gone = record { holdings = refl; fills = refl; gone = z; rows = rw z }; merging = merging_none b.holdings.now }

module _ {first now : Book} {i : ℕ} (s : Started first now i) (below : i < length first.holdings.now / 32) where
  here : i < length now.holdings.now / 32
  here = rw s.gone.holdings below

  tabled : Tabled now.holdings.now now.fills.now
  tabled = tables_clear _ _ now.tables

  leg_starts : next_leg now ≡ unmarked (chunk_at 32 now.holdings.now i)
  leg_starts = rw s.gone.gone (leg_start now.holdings.now now.fills.now i here)

  pub start_room : now.gone < most_records
  start_room = omega (arith, s.gone.gone, here, tabled.torn)

  pub start_in_range : in_range 0 (next_leg now) ≡ true
  unfolding unmarked
  start_in_range = rw leg_starts (paid_range 0 0 _ (good_range _ (record_good Holdings now.holdings.now i tabled.fields here)) (omega arith))

  number_is : opening_number now ≡ open_number (held_of (next_leg now) s.left) (length s.left) (next_leg now).contracts.0
  number_is = rw (← now.stand.count, s.gone.rows)

  pub started_more : {after : Book} → opening_number now ≡ 0 → GoneOver now after (rows_opened now) → Started first after (i + 1)
  started_more {after} z g =
      record {
        left = opened (next_leg now) s.left;
        gone = record {
          holdings = g.holdings ∙ s.gone.holdings;
          fills = g.fills ∙ s.gone.fills;
          gone = g.gone ∙ ap (λ (n : ℕ). n + 1) s.gone.gone;
          rows = g.rows ∙ rw (z, s.gone.rows);
        };
        merging = merging_more s.merging below (omega (arith, here, tabled.torn)) (next_leg now) (rw (← s.gone.holdings) leg_starts) (sym number_is ∙ z);
      }

  pub started_stop : (opening_number now ≡ 0 → ⊥) → Err (refuse 19 1 i) ≡ first_of (ask_past [] 0 (starting_legs first.holdings.now))
  started_stop n = merging_stop s.merging below (omega (arith, here, tabled.torn)) (next_leg now) (rw (← s.gone.holdings) leg_starts) (λ z. n (number_is ∙ z))

module _ {first now : Book} {i : ℕ} (s : Started first now i) (over : i ≡ length first.holdings.now / 32) where
  pub started_over : Ok tt ≡ first_of (ask_past [] 0 (starting_legs first.holdings.now))
  started_over = merging_over s.merging (omega arith)

  pub started_stands : Gone first now (length first.holdings.now / 32) (merged_rows (starting_legs first.holdings.now))
  started_stands =
      record {
        holdings = s.gone.holdings;
        fills = s.gone.fills;
        gone = s.gone.gone ∙ over;
        rows = s.gone.rows ∙ merging_all s.merging (omega arith);
      }

-- ---- the loop over the fills: those before fill i are gone over, and what is refused of them is listed

pub record PlayedTo (first now : Book) (indices₀ numbers₀ indices numbers : List ℕ) (k i : ℕ) : Type 0 where
  pub left : List Leg
  pub gone : Gone first now (length first.holdings.now / 32 + i) left
  pub playing : Playing first.fills.now indices₀ numbers₀ (standing first) left indices numbers k i

pub played_none : (b : Book) (indices numbers : List ℕ) → b.gone ≡ length b.holdings.now / 32 → PlayedTo b b indices numbers indices numbers 0 0
played_none b indices numbers e =
    record { left = standing b; gone = record { holdings = refl; fills = refl; gone = omega arith; rows = refl }; playing = playing_none _ _ _ _ }

module _ {first now : Book} {indices₀ numbers₀ indices numbers : List ℕ} {k i : ℕ} (s : PlayedTo first now indices₀ numbers₀ indices numbers k i)
    (below : i < length first.fills.now / 32) where
  abbrev fill_at : List ℕ
  fill_at = chunk_at 32 first.fills.now i

  number_here : number_over (standing now) (chunk_at 32 now.fills.now i) ≡ number_over s.left fill_at
  number_here = rw (s.gone.rows, s.gone.fills)

  rows_here : rows_after (standing now) (chunk_at 32 now.fills.now i) ≡ rows_after s.left fill_at
  rows_here = rw (s.gone.rows, s.gone.fills)

  module _ {after : Book} (g : GoneOver now after (rows_after (standing now) (chunk_at 32 now.fills.now i))) where
    gone_here : Gone first after (length first.holdings.now / 32 + (i + 1)) (rows_after s.left fill_at)
    gone_here =
        record {
          holdings = g.holdings ∙ s.gone.holdings;
          fills = g.fills ∙ s.gone.fills;
          gone = omega (arith, g.gone, s.gone.gone);
          rows = g.rows ∙ rows_here;
        }

    pub played_more : None ≡ refused_with (number_over (standing now) (chunk_at 32 now.fills.now i)) → PlayedTo first after indices₀ numbers₀ indices numbers k (i + 1)
    played_more z = record { left = rows_after s.left fill_at; gone = gone_here; playing = playing_more s.playing below (z ∙ ap refused_with number_here) }

    pub played_refused : {number : ℕ} → Some number ≡ refused_with (number_over (standing now) (chunk_at 32 now.fills.now i))
        → k < length indices₀ → k < length numbers₀
        → PlayedTo first after indices₀ numbers₀ (set indices k i) (set numbers k number) (k + 1) (i + 1)
    played_refused z hi hn =
        record { left = rows_after s.left fill_at; gone = gone_here; playing = playing_refused s.playing below (z ∙ ap refused_with number_here) hi hn }

module _ {first now : Book} {indices₀ numbers₀ indices numbers : List ℕ} {k i : ℕ} (s : PlayedTo first now indices₀ numbers₀ indices numbers k i)
    (over : i ≡ length first.fills.now / 32) where
  pub played_all : AllPlayed first now
  played_all = record { holdings = s.gone.holdings; fills = s.gone.fills; gone = rw (← over) s.gone.gone; rows = s.gone.rows ∙ playing_rows s.playing (omega arith) }

-- ---- the whole play, from the first record on

module _ {first merged : Book} (m : Gone first merged (length first.holdings.now / 32) (merged_rows (starting_legs first.holdings.now))) where
  pub merged_fills : length merged.fills.now ≡ length first.fills.now
  merged_fills = ap length m.fills

  pub refused_all : refused_of merged ≡ refused_in first.holdings.now first.fills.now
  unfolding refused_in
  refused_all = rw (m.rows, m.fills)

  module _ {after : Book} (a : AllPlayed merged after) where
    pub rows_all : standing after ≡ rows_played first.holdings.now first.fills.now
    unfolding rows_played
    rows_all = a.rows ∙ rw (m.rows, m.fills)

    pub rows_counted : after.rows ≡ length (rows_played first.holdings.now first.fills.now)
    rows_counted = sym after.stand.count ∙ ap length rows_all
