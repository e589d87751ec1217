mod PieceLists
