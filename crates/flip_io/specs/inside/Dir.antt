-- What a shelf over the system's files is made of: the words of the command line, three counters.
use Rattle.std.specs.Prelude.{◌≡◌, ◌≢◌, ℕ, List, String}
use Rattle.std.specs.declared.alloc.Global.{Global}
use Rattle.flip_io.specs.Counters.{counter_of}
use Rattle.flip_io.specs.Counts.{raised}
use Rattle.flip_io.specs.declared.dir.Counter.{Counter}
use Rattle.flip_io.specs.declared.dir.Counter.TheVariants.{First, Second, Third}
use Rattle.flip_io.specs.declared.dir.Counters.{Counters}
use Rattle.flip_io.specs.declared.dir.DirShelf.{DirShelf}

abbrev pub count_at : Counters → Counter → ℕ
count_at c First = c.first
count_at c Second = c.second
count_at c Third = c.third

-- one counter is raised, and the others stay
abbrev pub raise_at : Counters → Counter → Counters
raise_at c First = record c { first = raised c.first }
raise_at c Second = record c { second = raised c.second }
raise_at c Third = record c { third = raised c.third }

-- the words of the command line
abbrev pub words_of : {R F D : Type 0} → DirShelf R F D → List (String Global)
words_of shelf = shelf.words.now

-- how often reads of a name have failed
abbrev pub read_faults_of : {R F D : Type 0} → DirShelf R F D → List ℕ → ℕ
read_faults_of shelf name = count_at shelf.counters (counter_of shelf.words.now name)

-- a read of a name left the words, and the counts of the names that have another counter
pub record SparesOthers {R F D : Type 0} (before : DirShelf R F D) (name : List ℕ)
    (now : DirShelf R F D) : Type 0 where
  pub words : words_of now ≡ words_of before
  pub others : (other : List ℕ)
      → counter_of (words_of before) other ≢ counter_of (words_of before) name
      → read_faults_of now other ≡ read_faults_of before other
