-- Which page each column of the state is: for loops over a page. Assumes nothing.
use mathlib.Core.Path.{◌≡◌, refl}
use mathlib.Core.List.{List}
use Prim.Native.Nat.{ℕ}
use Rattle.memory.specs.Layout.{PARENT, IGNORE, STATUS, DEPTH, CHILDREN, CONSUMER, SUPPLIER, FLAGS, HOLDS, ERROR, LINKED, byte_col, link_col, word_col, state_in}

module _ (bytes words : List ℕ) where
  pub parent_page : byte_col PARENT bytes ≡ (state_in bytes words).wiring.parent
  unfolding state_in
  parent_page = refl

  pub ignore_page : byte_col IGNORE bytes ≡ (state_in bytes words).wiring.ignore
  unfolding state_in
  ignore_page = refl

  pub status_page : byte_col STATUS bytes ≡ (state_in bytes words).devices.status
  unfolding state_in
  status_page = refl

  pub depth_page : byte_col DEPTH bytes ≡ (state_in bytes words).devices.depth
  unfolding state_in
  depth_page = refl

  pub children_page : byte_col CHILDREN bytes ≡ (state_in bytes words).devices.children
  unfolding state_in
  children_page = refl

  pub consumer_page : link_col CONSUMER bytes ≡ (state_in bytes words).wiring.consumer
  unfolding state_in
  consumer_page = refl

  pub supplier_page : link_col SUPPLIER bytes ≡ (state_in bytes words).wiring.supplier
  unfolding state_in
  supplier_page = refl

  pub flags_page : link_col FLAGS bytes ≡ (state_in bytes words).wiring.flags
  unfolding state_in
  flags_page = refl

  pub holds_page : word_col HOLDS words ≡ (state_in bytes words).devices.holds
  unfolding state_in
  holds_page = refl

  pub error_page : word_col ERROR words ≡ (state_in bytes words).devices.error
  unfolding state_in
  error_page = refl

  pub linked_page : word_col LINKED words ≡ (state_in bytes words).devices.linked
  unfolding state_in
  linked_page = refl
