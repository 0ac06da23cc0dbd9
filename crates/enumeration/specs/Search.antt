-- What the search for stopping sets holds on the way: the checks that some members leave, and what is listed after them. Assumes nothing.
use Rattle.std.specs.Prelude.{◌≡◌, Bool, true, not, cond, ◌&&◌, ◌||◌, List, [], ◌∷◌, ◌++◌, ℕ, zero, suc, ◌+◌, ◌-◌, ◌^◌, ◌<◌, ◌≤◌, eqb, ltb, length, get_or, take}
use Rattle.std.specs.Int.Bits.{bit_and, bit_or}
use Rattle.std.proofs.lemmas.List.Edits.{sets}
use Rattle.parity.specs.Finite.{all}
use Rattle.parity.specs.Matrix.{Matrix, bit_of, lent}
use Rattle.parity.specs.Words.{inside, stopping}
use Rattle.parity.specs.StoppingSets.{is_in}

-- the matrix whose columns are lent, eight words for each bit
abbrev pub across : List ℕ → Matrix
across cols c b = lent 8 cols b c

-- the columns, and the words of the members, of which the first `used` count
pub record Sized (cols x u : List ℕ) (used : ℕ) : Type 0 where
  pub columns : length cols ≡ 1024
  pub once : length x ≡ 8
  pub some : length u ≡ 8
  pub least : 1 ≤ used
  pub most : used ≤ 8

-- Of the members a check contains exactly one (x), or some (u); d says whether it contains one more bit:
-- whether it contains exactly one of all.
abbrev pub lone : Bool → Bool → Bool → Bool
lone x u d = (x && not d) || (d && not u)

-- the same for the 64 checks of a word
unfoldable pub lone_word : ℕ → ℕ → ℕ → ℕ
lone_word x u d = bit_or (bit_and x (2 ^ 64 - 1 - d)) (bit_and d (2 ^ 64 - 1 - u))

-- the checks of a word that contain exactly one of the members (x) or none (u has the others): those where one more bit decides
unfoldable pub decided : ℕ → ℕ → ℕ
decided x u = bit_or x (2 ^ 64 - 1 - u)

-- the ones of x are ones of u
pub record Among (x u : ℕ) : Type 0 where
  pub at : (j : ℕ) → j < 64 → bit_of x j ≡ true → bit_of u j ≡ true

-- the words x and u hold, of the members p, the checks that contain exactly one, and those that contain some
pub record Seen (h : Matrix) (p x u : List ℕ) : Type 0 where
  pub once : (c : ℕ) → c < 512 → lent 8 x 0 c ≡ eqb (inside h 128 c (is_in p)) 1
  pub some : (c : ℕ) → c < 512 → lent 8 u 0 c ≡ ltb 0 (inside h 128 c (is_in p))

-- whether no check below M contains exactly one of the members and bit d
unfoldable pub completing : List ℕ → List ℕ → List ℕ → ℕ → ℕ → Bool
completing cols x u M d = all M (λ c. not (lone (lent 8 x 0 c) (lent 8 u 0 c) (lent 8 cols d c)))

-- r is x, with bit d among the members besides
pub record OnceWith (cols x u : List ℕ) (d : ℕ) (r : List ℕ) : Type 0 where
  pub size : length r ≡ 8
  pub at : (c : ℕ) → c < 512 → lent 8 r 0 c ≡ lone (lent 8 x 0 c) (lent 8 u 0 c) (lent 8 cols d c)

-- r is u, with bit d among the members besides
pub record SomeWith (cols u : List ℕ) (d : ℕ) (r : List ℕ) : Type 0 where
  pub size : length r ≡ 8
  pub at : (c : ℕ) → c < 512 → lent 8 r 0 c ≡ (lent 8 u 0 c || lent 8 cols d c)

-- the array r begins with the members p and then d
pub record Longer (p : List ℕ) (d : ℕ) (r : List ℕ) : Type 0 where
  pub size : length r ≡ 4
  pub front : take (length p + 1) r ≡ p ++ (d ∷ [])

-- all members are below a
pub record Under (p : List ℕ) (a : ℕ) : Type 0 where
  pub at : (i : ℕ) → i < length p → get_or p i 0 < a

-- the members p, all below a, with what their words hold
abbrev pub Begun : List ℕ → List ℕ → List ℕ → List ℕ → ℕ → Type 0
Begun cols p x u a = Seen (across cols) p x u × Under p a

-- f a, f (a + 1), .., r of them one after the other
unfoldable pub joined : ℕ → ℕ → (ℕ → List ℕ) → List ℕ
joined zero a f = []
joined (suc r) a f = joined r a f ++ f (a + r)

-- the set p, if it is a stopping set
unfoldable pub if_stopping : Matrix → ℕ → List ℕ → List ℕ
if_stopping h M p = cond (stopping h 128 M (is_in p)) p []

-- what is listed with b as the last member
abbrev pub last_of : Matrix → ℕ → List ℕ → ℕ → List ℕ
last_of h M p b = if_stopping h M (p ++ (b ∷ []))

-- The stopping sets that begin with the members p and have t more, from a to n - 1, one after the other.
unfoldable pub listed : Matrix → ℕ → ℕ → ℕ → List ℕ → ℕ → List ℕ
listed h M n zero p a = if_stopping h M p
listed h M n (suc t) p a = joined (n - a) a (λ b. listed h M n t (p ++ (b ∷ [])) (suc b))

-- `new` is `old` with the numbers ws stored from place p on, if they are written at all; r is the place behind them.
pub record Put (write : Bool) (old new : List ℕ) (p : ℕ) (ws : List ℕ) (r : ℕ) : Type 0 where
  pub stored : new ≡ cond write (sets old p ws) old
  pub place : r ≡ p + length ws

-- how long the list must be for the places below `end` to be written, if they are written
abbrev pub room_for : Bool → ℕ → ℕ
room_for write end = cond write end 0
