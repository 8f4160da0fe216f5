-- Where the state stands in two arrays of cells, bytes and words. First a page of ROWS cells for each column of the devices, then (bytes)
-- a page of LINKS cells for each column of the links, then a cell for each number of the whole bench. No cell is spare.
-- Assumes nothing.
use Rattle.std.specs.Prelude.{◌≡◌, List, [], ◌∷◌, ◌++◌, ℕ, ◌+◌, ◌*◌, ◌<◌, ◌≤◌, length, get_or, take, drop}
use Rattle.model.specs.Limits.{ROWS, LINKS}
use Rattle.model.specs.State.{State}

-- ---- bytes: the pages of the devices, the pages of the links, the numbers
abbrev pub PARENT : ℕ
PARENT = 0

abbrev pub IGNORE : ℕ
IGNORE = 1

abbrev pub STATUS : ℕ
STATUS = 2

abbrev pub DEPTH : ℕ
DEPTH = 3

abbrev pub CHILDREN : ℕ
CHILDREN = 4

abbrev pub BYTEPAGES : ℕ
BYTEPAGES = 5

abbrev pub CONSUMER : ℕ
CONSUMER = 0

abbrev pub SUPPLIER : ℕ
SUPPLIER = 1

abbrev pub FLAGS : ℕ
FLAGS = 2

abbrev pub LINKPAGES : ℕ
LINKPAGES = 3

abbrev pub COUNT : ℕ
COUNT = 0

abbrev pub KIND : ℕ
KIND = 1

abbrev pub ASKED : ℕ
ASKED = 2

abbrev pub TARGET : ℕ
TARGET = 3

abbrev pub USED : ℕ
USED = 4

abbrev pub CARRIED : ℕ
CARRIED = 5

abbrev pub BYTENUMBERS : ℕ
BYTENUMBERS = 8

-- ---- words: the pages of the devices, the numbers
abbrev pub HOLDS : ℕ
HOLDS = 0

abbrev pub ERROR : ℕ
ERROR = 1

abbrev pub LINKED : ℕ
LINKED = 2

abbrev pub WORDPAGES : ℕ
WORDPAGES = 3

abbrev pub LINKCOUNT : ℕ
LINKCOUNT = 0

abbrev pub WORDNUMBERS : ℕ
WORDNUMBERS = 1

-- ---- where the numbers start, and how many cells there are
abbrev pub LINKSAT : ℕ
LINKSAT = ROWS * BYTEPAGES

abbrev pub BYTETAIL : ℕ
BYTETAIL = LINKSAT + LINKS * LINKPAGES

abbrev pub WORDTAIL : ℕ
WORDTAIL = ROWS * WORDPAGES

unfoldable pub BYTES : ℕ
BYTES = BYTETAIL + BYTENUMBERS

unfoldable pub WORDS : ℕ
WORDS = WORDTAIL + WORDNUMBERS

-- ---- reading
-- so many cells from a place on
unfoldable pub area : ℕ → ℕ → List ℕ → List ℕ
area from size cells = take size (drop from cells)

-- page k of an area
unfoldable pub page : ℕ → ℕ → List ℕ → List ℕ
page size k cells = area (size * k) size cells

-- the columns: page k of so many device pages, which stand first; page k of the links
unfoldable pub device_col : ℕ → ℕ → List ℕ → List ℕ
device_col pages k cells = page ROWS k (take (ROWS * pages) cells)

abbrev pub byte_col : ℕ → List ℕ → List ℕ
byte_col k bytes = device_col BYTEPAGES k bytes

abbrev pub word_col : ℕ → List ℕ → List ℕ
word_col k words = device_col WORDPAGES k words

unfoldable pub link_col : ℕ → List ℕ → List ℕ
link_col k bytes = page LINKS k (area LINKSAT (LINKS * LINKPAGES) bytes)

-- the numbers
unfoldable pub byte_tail : List ℕ → List ℕ
byte_tail bytes = area BYTETAIL BYTENUMBERS bytes

unfoldable pub word_tail : List ℕ → List ℕ
word_tail words = area WORDTAIL WORDNUMBERS words

unfoldable pub state_in : List ℕ → List ℕ → State
state_in bytes words =
    record {
      wiring =
          record {
            n = get_or (byte_tail bytes) COUNT 0;
            m = get_or (word_tail words) LINKCOUNT 0;
            parent = byte_col PARENT bytes;
            ignore = byte_col IGNORE bytes;
            consumer = link_col CONSUMER bytes;
            supplier = link_col SUPPLIER bytes;
            flags = link_col FLAGS bytes;
          };
      devices =
          record {
            status = byte_col STATUS bytes;
            holds = word_col HOLDS words;
            depth = byte_col DEPTH bytes;
            error = word_col ERROR words;
            children = byte_col CHILDREN bytes;
            linked = word_col LINKED words;
          };
      callback = record { kind = get_or (byte_tail bytes) KIND 0; asked = get_or (byte_tail bytes) ASKED 0; target = get_or (byte_tail bytes) TARGET 0 };
      carry = record { bytes = area CARRIED 3 (byte_tail bytes); used = get_or (byte_tail bytes) USED 0 };
    }

-- ---- and back: the one memory of a state
unfoldable pub byte_numbers : State → List ℕ
byte_numbers s = s.wiring.n ∷ s.callback.kind ∷ s.callback.asked ∷ s.callback.target ∷ s.carry.used ∷ s.carry.bytes

unfoldable pub bytes_of : State → List ℕ
bytes_of s =
    s.wiring.parent
    ++ (s.wiring.ignore
    ++ (s.devices.status
    ++ (s.devices.depth ++ (s.devices.children ++ (s.wiring.consumer ++ (s.wiring.supplier ++ (s.wiring.flags ++ byte_numbers s)))))))

unfoldable pub words_of : State → List ℕ
words_of s = s.devices.holds ++ (s.devices.error ++ (s.devices.linked ++ (s.wiring.m ∷ [])))

-- ---- a memory and its state determine each other, as no cell is spare: proofs/Inverse.antt
-- the arrays have all their cells
pub record Whole (bytes words : List ℕ) : Type 0 where
  pub all_bytes : length bytes ≡ BYTES
  pub all_words : length words ≡ WORDS

-- two memories that hold the same state are the same
abbrev pub OneMemory : Type 0
OneMemory =
    (bytes words bytes₁ words₁ : List ℕ)
    → Whole bytes words
    → Whole bytes₁ words₁
    → state_in bytes words ≡ state_in bytes₁ words₁
    → (bytes ≡ bytes₁) × (words ≡ words₁)

-- what a cell of bytes and a cell of words is below
abbrev pub BYTE : ℕ
BYTE = 256

abbrev pub WORD : ℕ
WORD = 4294967296

-- every cell is below a bound
pub record Cells (most : ℕ) (cells : List ℕ) : Type 0 where
  pub below : (i : ℕ) → get_or cells i 0 < most

-- ---- contracts of setters
-- the memory after has the state that f makes of the one before
abbrev pub Becomes : (State → State) → (bytes₀ words₀ bytes words : List ℕ) → Type 0
Becomes f bytes₀ words₀ bytes words = state_in bytes words ≡ f (state_in bytes₀ words₀)

-- by a change of the bytes alone, or of the words alone
abbrev pub BytesBecome : (State → State) → (bytes₀ bytes : List ℕ) → Type 0
BytesBecome f bytes₀ bytes = (words : List ℕ) → Becomes f bytes₀ words bytes words

abbrev pub WordsBecome : (State → State) → (words₀ words : List ℕ) → Type 0
WordsBecome f words₀ words = (bytes : List ℕ) → Becomes f bytes words₀ bytes words

-- the same where the array has all its cells
abbrev pub WholeBytesBecome : (State → State) → (bytes₀ bytes : List ℕ) → Type 0
WholeBytesBecome f bytes₀ bytes = (words : List ℕ) → BYTES ≤ length bytes₀ → Becomes f bytes₀ words bytes words

abbrev pub WholeWordsBecome : (State → State) → (words₀ words : List ℕ) → Type 0
WholeWordsBecome f words₀ words = (bytes : List ℕ) → WORDS ≤ length words₀ → Becomes f bytes words₀ bytes words
