-- Numbers of document 01: its limits, its number for no parent, and the error codes that the keeper answers with. Beside them the rows of
-- a column, which are ours, and how a negative number stands in 16 bits. Assumes nothing.
use Rattle.std.specs.Prelude.{ℕ, ◌-◌}

-- "part count n, 1 to 64", "link count m, 0 to 128"
unfoldable pub DEVICES : ℕ
DEVICES = 64

unfoldable pub LINKS : ℕ
LINKS = 128

-- the rows of a device column, one for each byte value; a link column has LINKS rows
unfoldable pub ROWS : ℕ
ROWS = 256

-- "parent (255 for none ..)"
abbrev pub NONE : ℕ
NONE = 255

-- "User holds: 0 to 32,767", "Disable depth: 0 to 255", "Error: 0, or -4,095 to -1"
abbrev pub MAXHOLDS : ℕ
MAXHOLDS = 32767

abbrev pub MAXDEPTH : ℕ
MAXDEPTH = 255

abbrev pub MAXERROR : ℕ
MAXERROR = 4095

-- "piece over 4,096 bytes"
abbrev pub MAXPIECE : ℕ
MAXPIECE = 4096

-- "Error codes are Linux's": their magnitudes; 13 comes with request Three
abbrev pub EAGAIN : ℕ
EAGAIN = 11

abbrev pub EACCES : ℕ
EACCES = 13

abbrev pub EBUSY : ℕ
EBUSY = 16

abbrev pub EINVAL : ℕ
EINVAL = 22

abbrev pub EOVERFLOW : ℕ
EOVERFLOW = 75

abbrev pub EINPROGRESS : ℕ
EINPROGRESS = 115

-- "signed 16-bit": -k as it stands in a record or a reply, and from there back to k
abbrev pub minus : ℕ → ℕ
minus k = 65536 - k
