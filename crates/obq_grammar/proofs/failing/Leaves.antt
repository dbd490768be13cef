-- Productions of one token, from the token; and what stands behind a list that goes on no more.

-- the productions
