-- A word of the free rows that a caller holds from push to push.
use Rattle.std.specs.Prelude.{List, ℕ, ◌<◌, set}
use Rattle.lines.specs.declared.Held.{Held}
use Rattle.lines.specs.Words.{free_words, summary_of}

-- the pool once the word that is held is stored: the pool that a push by such a caller is about
unfoldable pub released : List ℕ → Held → List ℕ
released l h = set l h.at h.free

-- what is held is a word of the free rows, and not 0 where the summary says that there is one
pub record Holds (l : List ℕ) (h : Held) : Type 0 where
  pub low : h.at < free_words
  pub some : 0 < summary_of l → 0 < h.free
