-- Parts and links that say what a loaded table says, by the table's bytes and by its columns. Assumes nothing.
use mathlib.Core.Path.{◌≡◌, sym, ◌∙◌}
use mathlib.Core.List.{List}
use Prim.Native.Nat.{ℕ, ◌*◌, ◌<◌}
use lib.ListN.{length, get_or}
use Rattle.model.specs.Limits.{LINKS, ROWS}
use Rattle.model.specs.Table.{devices_in, links_in, device_byte, link_byte, padded, wiring_in}
use Rattle.model.proofs.Basics.{few_rows}
use Rattle.model.proofs.Loading.{at_padded}
use Rattle.model.specs.Writing.{device_field, link_field, pair}
use Rattle.writer_laws.specs.Same.{SameLink, Says}
use Rattle.writer_laws.proofs.Taken.{Rules, limits}

pub record SameBytes (links : List ℕ) (i : ℕ) (t : List ℕ) (k : ℕ) : Type 0 where
  pub consumer : link_field links 0 i ≡ link_byte t 0 k
  pub supplier : link_field links 1 i ≡ link_byte t 1 k
  pub flags : link_field links 2 i ≡ link_byte t 2 k

pub record SameTable (devices links t : List ℕ) : Type 0 where
  pub devices_whole : length devices ≡ 2 * devices_in t
  pub links_whole : length links ≡ 3 * links_in t
  pub parent : (p : ℕ) → p < devices_in t → device_field devices 0 p ≡ device_byte t 0 p
  pub ignore : (p : ℕ) → p < devices_in t → device_field devices 1 p ≡ device_byte t 1 p
  pub given : (i : ℕ) → i < links_in t → (k : ℕ) × (k < links_in t) × SameBytes links i t k
  pub listed : (k : ℕ) → k < links_in t → (i : ℕ) × (i < links_in t) × SameBytes links i t k
  pub once : (i j : ℕ) → i < j → j < links_in t → pair links i ≡ pair links j → ⊥

module _ {t : List ℕ} (h : Rules t) where
  -- a field of an entry, as the columns have it
  device_at : (field p : ℕ) → p < devices_in t → get_or (padded (device_byte t field) (devices_in t) ROWS) p 0 ≡ device_byte t field p
  device_at field p l = at_padded (device_byte t field) (devices_in t) ROWS p (few_rows (limits h).1.0) l

  pub link_at : (field k : ℕ) → k < links_in t → get_or (padded (link_byte t field) (links_in t) LINKS) k 0 ≡ link_byte t field k
  link_at field k l = at_padded (link_byte t field) (links_in t) LINKS k (limits h).1.1 l

  to_column : {links : List ℕ} {i k : ℕ} → k < links_in t → SameBytes links i t k → SameLink links i (wiring_in t) k
  unfolding wiring_in
  to_column {links} {i} {k} l s = record { consumer = s.consumer ∙ sym (link_at 0 k l); supplier = s.supplier ∙ sym (link_at 1 k l); flags = s.flags ∙ sym (link_at 2 k l) }

  from_column : {links : List ℕ} {i k : ℕ} → k < links_in t → SameLink links i (wiring_in t) k → SameBytes links i t k
  unfolding wiring_in
  from_column {links} {i} {k} l s = record { consumer = s.consumer ∙ link_at 0 k l; supplier = s.supplier ∙ link_at 1 k l; flags = s.flags ∙ link_at 2 k l }

  pub to_wiring : {devices links : List ℕ} → SameTable devices links t → Says devices links (wiring_in t)
  unfolding wiring_in
  to_wiring {devices} {links} s =
      record {
        devices_whole = s.devices_whole;
        links_whole = s.links_whole;
        parent = λ p l. s.parent p l ∙ sym (device_at 0 p l);
        ignore = λ p l. s.ignore p l ∙ sym (device_at 1 p l);
        given = λ i l. let w = s.given i l in (w.0, w.1, to_column w.1 w.2);
        listed = λ k l. let w = s.listed k l in (w.0, w.1, to_column l w.2);
        once = s.once;
      }

  pub from_wiring : {devices links : List ℕ} → Says devices links (wiring_in t) → SameTable devices links t
  unfolding wiring_in
  from_wiring {devices} {links} s =
      record {
        devices_whole = s.devices_whole;
        links_whole = s.links_whole;
        parent = λ p l. s.parent p l ∙ device_at 0 p l;
        ignore = λ p l. s.ignore p l ∙ device_at 1 p l;
        given = λ i l. let w = s.given i l in (w.0, w.1, from_column w.1 w.2);
        listed = λ k l. let w = s.listed k l in (w.0, w.1, from_column l w.2);
        once = s.once;
      }
