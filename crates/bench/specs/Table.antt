-- Document 01, 'Matrices on the bench': cases A to K. Each list is the bits of a check. Assumes nothing.
use Rattle.std.specs.Prelude.{List, [], ◌∷◌}
use Rattle.bench.specs.Case.{Lent, Case, counting, orthogonalising, splitting_no_pair, splitting_below_two, peeling, peeling_contradiction, ranking, encoding, loading_faulty}

-- A (document 000, Example 1)
abbrev pub matrix_a : Lent
matrix_a = record { n = 7; m = 3; k = 0; checks = (0 ∷ 3 ∷ 4 ∷ 6 ∷ []) ∷ (1 ∷ 3 ∷ 5 ∷ 6 ∷ []) ∷ (2 ∷ 4 ∷ 5 ∷ 6 ∷ []) ∷ [] }

-- B: A orthogonalised
abbrev pub matrix_b : Lent
matrix_b =
    record { n = 7; m = 3; k = 1; checks = (0 ∷ 4 ∷ 7 ∷ []) ∷ (1 ∷ 5 ∷ 7 ∷ []) ∷ (2 ∷ 4 ∷ 5 ∷ 6 ∷ []) ∷ (3 ∷ 6 ∷ 7 ∷ []) ∷ [] }

-- C (document 000, Example 2)
abbrev pub matrix_c : Lent
matrix_c = record { n = 7; m = 3; k = 0; checks = (0 ∷ 1 ∷ 2 ∷ 3 ∷ []) ∷ (0 ∷ 1 ∷ 4 ∷ 5 ∷ []) ∷ (0 ∷ 2 ∷ 6 ∷ []) ∷ [] }

-- D: C orthogonalised
abbrev pub matrix_d : Lent
matrix_d =
    record { n = 7; m = 3; k = 1; checks = (2 ∷ 3 ∷ 7 ∷ []) ∷ (4 ∷ 5 ∷ 7 ∷ []) ∷ (0 ∷ 2 ∷ 6 ∷ []) ∷ (0 ∷ 1 ∷ 7 ∷ []) ∷ [] }

-- E, and E orthogonalised
abbrev pub matrix_e : Lent
matrix_e = record { n = 3; m = 2; k = 0; checks = (0 ∷ 1 ∷ 2 ∷ []) ∷ (0 ∷ 1 ∷ 2 ∷ []) ∷ [] }

abbrev pub split_e : Lent
split_e = record { n = 3; m = 2; k = 2; checks = (4 ∷ []) ∷ (4 ∷ []) ∷ (0 ∷ 1 ∷ 3 ∷ []) ∷ (2 ∷ 3 ∷ 4 ∷ []) ∷ [] }

-- F
abbrev pub matrix_f : Lent
matrix_f = record { n = 2; m = 0; k = 0; checks = [] }

-- I
abbrev pub matrix_i : Lent
matrix_i = record { n = 2; m = 2; k = 0; checks = (0 ∷ []) ∷ (0 ∷ 1 ∷ []) ∷ [] }

abbrev pub table : List Case
table =
    -- A
    counting matrix_a 3
    -- B
    ∷ orthogonalising matrix_a 1 1 1 (0 ∷ 1 ∷ []) matrix_b.checks
    -- C
    ∷ counting matrix_c 2
    ∷ peeling matrix_c (2 ∷ 2 ∷ 2 ∷ 1 ∷ 1 ∷ 1 ∷ 1 ∷ []) (0 ∷ 0 ∷ 3 ∷ 0 ∷ []) (2 ∷ 2 ∷ 2 ∷ 1 ∷ 1 ∷ 1 ∷ 1 ∷ [])
    -- D
    ∷ orthogonalising matrix_c 1 1 1 (0 ∷ 1 ∷ []) matrix_d.checks
    ∷ peeling matrix_d (2 ∷ 2 ∷ 2 ∷ 1 ∷ 1 ∷ 1 ∷ 1 ∷ 2 ∷ []) (3 ∷ 1 ∷ 0 ∷ 0 ∷ []) (0 ∷ 0 ∷ 1 ∷ 1 ∷ 1 ∷ 1 ∷ 1 ∷ 0 ∷ [])
    -- E
    ∷ counting matrix_e 3
    ∷ orthogonalising matrix_e 2 2 2 (0 ∷ 1 ∷ []) split_e.checks
    ∷ counting split_e 0
    -- F
    ∷ peeling matrix_f (2 ∷ 2 ∷ []) (0 ∷ 0 ∷ 2 ∷ 0 ∷ []) (2 ∷ 2 ∷ [])
    -- G
    ∷ splitting_below_two matrix_c 0 3 1
    -- H
    ∷ splitting_no_pair matrix_c 4 4
    -- I
    ∷ peeling_contradiction matrix_i (2 ∷ 1 ∷ [])
    -- J
    ∷ ranking matrix_a 3
    ∷ encoding matrix_a (1 ∷ 0 ∷ 0 ∷ 0 ∷ []) (1 ∷ 1 ∷ 0 ∷ 1 ∷ 0 ∷ 0 ∷ 0 ∷ [])
    -- K
    ∷ loading_faulty [] 0
    ∷ []
