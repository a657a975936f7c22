mod NewBlocks
